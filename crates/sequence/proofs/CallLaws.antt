-- Rows of calls: how many there are, what each is, and that demand 3 speaks of each.
use Prim.Native.Nat.{ℕ, zero, suc, ◌+◌, ◌*◌, ◌%◌, ◌<◌}
use mathlib.Core.Path.{◌≡◌, refl, sym, ap, ◌∙◌}
use mathlib.Core.List.{List, [], ◌∷◌}
use mathlib.Core.Bool.{Bool, true, false, cond}
use native.Mathlib.Omega.{arith}
use lib.ListN.{length, drop, get_or, length-append}
use lib.Dec.{eqb}
use borrow.Author.Tests.{eq-eqb, ne_eqb}
use Rattle.octets.specs.Numbers.{Octets}
use Rattle.octets.proofs.Numbers.{drop_octets, take_octets}
use Rattle.scp_fields.specs.declared.Edition.{Edition}
use Rattle.scp_fields.specs.Editions.{edition_of}
use Rattle.scp.specs.Answers.{Answer}
use Rattle.scp_book.specs.Book as book
use Rattle.scp_book.specs.Book.{Call, after, answers}
use Rattle.scp_book.specs.Claim.{Fits, AllFit}
use Rattle.copies.specs.Copying.{part}
use Rattle.scp_rows.specs.Rows.{question_of, row_of}
use Rattle.scp_rows.proofs.RowLaws.{row_length}
use Rattle.sequence.specs.Calls.{call_size, call_of, capped, field, call_at, calls_from, calls_of, rows_of}

-- ---- how many numbers and rows there are

pub rows_length : (rest : List Answer) → length (rows_of rest) ≡ 16 * length rest
unfolding rows_of
rows_length [] = refl
rows_length (a ∷ rest) =
    let joined = length-append (row_of a) (rows_of rest) in
    let here = row_length a in
    let there = rows_length rest in
    omega arith

pub answers_length : (b : List ℕ) (cs : List Call) → length (answers b cs) ≡ length cs
unfolding answers
answers_length b [] = refl
answers_length b (c ∷ cs) = ap suc (answers_length (after b c) cs)

pub calls_length : (calls words : List ℕ) (i n : ℕ) → length (calls_from calls words i n) ≡ n
unfolding calls_from
calls_length calls words i zero = refl
calls_length calls words i (suc n) = ap suc (calls_length calls words (i + 1) n)

-- ---- every row is a call that demand 3 speaks of

fit_by : (x : Bool) (c d : Call) → Fits c → Fits d → Fits (cond x c d)
fit_by true c d h k = h
fit_by false c d h k = k

fits_of : (v : Edition) (kind t k d : ℕ) (ws : List ℕ) → d < 4_294_967_296 → Octets ws → Fits (call_of v kind t k d ws)
unfolding call_of
fits_of v kind t k d ws h o = fit_by (eqb kind 8) (book.rewrite v t k d ws) _ (h, o) tt

call_fits : (calls words : List ℕ) (i : ℕ) → Octets words → Fits (call_at calls words i)
unfolding call_at
call_fits calls words i o =
    let start = field calls i 4 in
    let n = field calls i 5 in
    let d : field calls i 3 % 4_294_967_296 < 4_294_967_296 = omega arith in
    fits_of _ _ _ _ _ _ d (take_octets n (drop start words) (drop_octets start words o))

calls_fit_from : (calls words : List ℕ) (i n : ℕ) → Octets words → AllFit (calls_from calls words i n)
unfolding calls_from
calls_fit_from calls words i zero o = tt
calls_fit_from calls words i (suc n) o = (call_fits calls words i o, calls_fit_from calls words (i + 1) n o)

pub calls_fit : (calls words : List ℕ) → Octets words → AllFit (calls_of calls words)
calls_fit calls words o = calls_fit_from calls words 0 _ o

-- ---- what a row's kind says of its call

kind_is : (calls : List ℕ) (i : ℕ) → field calls i 0 ≡ get_or calls (call_size * i) 0
kind_is calls i = let e : call_size * i + 0 ≡ call_size * i = omega arith in ap (λ (j : ℕ). get_or calls j 0) e

module _ (calls words : List ℕ) (i : ℕ) where
  -- the edition that a row names
  abbrev pub edition_at : Edition
  edition_at = edition_of (field calls i 6)

  pub call_rewrite : get_or calls (call_size * i) 0 ≡ 8
      → call_at calls words i
      ≡ book.rewrite edition_at (capped (field calls i 1)) (capped (field calls i 2)) (field calls i 3 % 4_294_967_296)
      (part words (field calls i 4) (field calls i 5))
  unfolding call_at call_of
  call_rewrite h = simp (eq-eqb (field calls i 0) 8 (kind_is calls i ∙ h))

  pub call_question : (get_or calls (call_size * i) 0 ≡ 8 → ⊥)
      → call_at calls words i
      ≡ book.ask edition_at (question_of (get_or calls (call_size * i) 0) (capped (field calls i 1)) (capped (field calls i 2)))
  unfolding call_at call_of
  call_question h =
      let e = kind_is calls i in
      let q : call_at calls words i ≡ book.ask edition_at (question_of (field calls i 0) (capped (field calls i 1)) (capped (field calls i 2))) =
      simp (ne_eqb (field calls i 0) 8 (λ z. h (sym e ∙ z))) in
      q ∙ ap (λ (x : ℕ). book.ask edition_at (question_of x (capped (field calls i 1)) (capped (field calls i 2)))) e

-- calls whose arguments are equal
pub rewrite_same : (d : ℕ) {v v' : Edition} {t t' k k' : ℕ} {ws ws' : List ℕ} → v ≡ v' → t ≡ t' → k ≡ k' → ws ≡ ws'
    → book.rewrite v t k d ws ≡ book.rewrite v' t' k' d ws'
rewrite_same d ev et ek ew = cc

pub question_same : (kind : ℕ) {v v' : Edition} {t t' k k' : ℕ} → v ≡ v' → t ≡ t' → k ≡ k'
    → book.ask v (question_of kind t k) ≡ book.ask v' (question_of kind t' k')
question_same kind ev et ek = cc
