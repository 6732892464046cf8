-- Making one call after the other: what is left to be done after one more, and at the end.
use Prim.Native.Nat.{ℕ, suc, ◌+◌, ◌-◌, ◌*◌, ◌/◌, ◌<◌, ◌≤◌}
use mathlib.Core.Path.{◌≡◌, sym, ap, ◌∙◌}
use mathlib.Core.List.{List, [], ◌∷◌, ◌++◌}
use native.Mathlib.Omega.{arith}
use lib.ListN.{length}
use lib.Seq.{sets}
use Rattle.flux.proofs.Wrote.{Wrote, start, retell, moved, put_run}
use Rattle.scp.specs.Answers.{Answer}
use Rattle.scp_book.specs.Book.{Call, answer, after, final_bytes, answers}
use Rattle.scp_rows.specs.Rows.{row_of}
use Rattle.scp_rows.proofs.RowLaws.{row_length}
use Rattle.sequence.specs.Calls.{call_size, call_at, calls_from, calls_of, rows_of}
use Rattle.sequence.proofs.CallLaws.{rows_length, answers_length, calls_length}

-- the row of call i lies within the places for n
pub row_fits : (a : Answer) (d d₀ : List ℕ) {row : List ℕ} (i n : ℕ) → row ≡ row_of a → 16 * n ≤ length d₀ → length d ≡ length d₀ → i < n
    → 16 * i + length row ≤ length d
row_fits a d d₀ i n e places same below = let size = ap length e ∙ row_length a in omega arith

module _ (calls words : List ℕ) where
  calls_next : (i n : ℕ) → i < n → calls_from calls words i (n - i) ≡ call_at calls words i ∷ calls_from calls words (i + 1) (n - (i + 1))
  unfolding calls_from
  calls_next i n h =
      let e : n - i ≡ suc (n - (i + 1)) = omega arith in
      ap (calls_from calls words i) e

  calls_end : (i n : ℕ) → n ≤ i → calls_from calls words i (n - i) ≡ []
  unfolding calls_from
  calls_end i n h =
      let e : n - i ≡ 0 = omega arith in
      ap (calls_from calls words i) e

  calls_start : (n : ℕ) → calls_from calls words 0 n ≡ calls_from calls words 0 (n - 0)
  calls_start n =
      let e : n ≡ n - 0 = omega arith in
      ap (calls_from calls words 0) e

  -- there are places for all rows
  pub room : (b d : List ℕ) → 16 * (length calls / call_size) ≤ length d → length (rows_of (answers b (calls_of calls words))) ≤ length d
  room b d h =
      let r = rows_length (answers b (calls_of calls words)) in
      let a = answers_length b (calls_of calls words) in
      let k = calls_length calls words 0 (length calls / call_size) in
      omega arith

  pub final_start : (b : List ℕ) (n : ℕ) → final_bytes b (calls_from calls words 0 (n - 0)) ≡ final_bytes b (calls_from calls words 0 n)
  final_start b n = ap (final_bytes b) (sym (calls_start n))

  pub wrote_start : (b d : List ℕ) (n : ℕ)
      → Wrote d d (16 * 0) (rows_of (answers b (calls_from calls words 0 (n - 0)))) (rows_of (answers b (calls_from calls words 0 n)))
  wrote_start b d n =
      retell (ap (λ (cs : List Call). rows_of (answers b cs)) (calls_start n)) (start d (rows_of (answers b (calls_from calls words 0 n))))

  -- one call more
  pub final_next : (b q R : List ℕ) (i n : ℕ) → i < n → q ≡ after b (call_at calls words i)
      → final_bytes b (calls_from calls words i (n - i)) ≡ R → final_bytes q (calls_from calls words (i + 1) (n - (i + 1))) ≡ R
  unfolding final_bytes
  final_next b q R i n h e f =
      ap (λ (x : List ℕ). final_bytes x (calls_from calls words (i + 1) (n - (i + 1)))) e
      ∙ sym (ap (final_bytes b) (calls_next i n h))
      ∙ f

  rows_next : (b : List ℕ) (i n : ℕ) → i < n
      → rows_of (answers b (calls_from calls words i (n - i)))
      ≡ row_of (answer b (call_at calls words i)) ++ rows_of (answers (after b (call_at calls words i)) (calls_from calls words (i + 1) (n - (i + 1))))
  unfolding answers rows_of
  rows_next b i n h = ap (λ (cs : List Call). rows_of (answers b cs)) (calls_next i n h)

  pub wrote_next : (b q row d₀ d whole : List ℕ) (i n : ℕ) → i < n → length whole ≤ length d₀ → q ≡ after b (call_at calls words i)
      → row ≡ row_of (answer b (call_at calls words i)) → Wrote d₀ d (16 * i) (rows_of (answers b (calls_from calls words i (n - i)))) whole
      → Wrote d₀ (sets d (16 * i) row) (16 * (i + 1)) (rows_of (answers q (calls_from calls words (i + 1) (n - (i + 1))))) whole
  wrote_next b q row d₀ d whole i n h r e f w =
      let size = row_length (answer b (call_at calls words i)) in
      let at : 16 * i + length (row_of (answer b (call_at calls words i))) ≡ 16 * (i + 1) = omega arith in
      retell (ap (λ (x : List ℕ). rows_of (answers x (calls_from calls words (i + 1) (n - (i + 1))))) (sym e))
      (moved (ap (sets d (16 * i)) (sym f)) at (put_run (row_of (answer b (call_at calls words i))) r (retell (rows_next b i n h) w)))

  -- no call is left
  pub final_end : (b R : List ℕ) (i n : ℕ) → n ≤ i → final_bytes b (calls_from calls words i (n - i)) ≡ R → b ≡ R
  unfolding final_bytes
  final_end b R i n h f = sym (ap (final_bytes b) (calls_end i n h)) ∙ f

  pub rows_end : (b : List ℕ) (i n : ℕ) → n ≤ i → rows_of (answers b (calls_from calls words i (n - i))) ≡ []
  unfolding answers rows_of
  rows_end b i n h = ap (λ (cs : List Call). rows_of (answers b cs)) (calls_end i n h)
