-- Where a text goes wrong, from any place in it: each sequence that starts there is passed whole.
use Prim.Native.Nat.{ℕ, zero, suc, ◌+◌, ◌-◌, ◌<◌, ◌≤◌}
use mathlib.Core.Path.{◌≡◌, refl, sym, ap, ◌∙◌}
use mathlib.Core.Logic.{◌≢◌}
use mathlib.Core.Bool.{Bool, true, false, cond, and-eq-true_iff, false≢true}
use mathlib.Core.List.{List, [], ◌∷◌}
use native.Mathlib.Nat.{not-suc-le-zero, le_of_suc-le-suc}
use native.Mathlib.Omega.{arith}
use lib.Dec.{eqb}
use lib.ListN.{length, get_or, drop, drop_of_length-le, length-drop}
use lib.Seq.{drop-cons, drop-drop}
use borrow.Author.Tests.{ne_eqb}
use Rattle.utf8.specs.Table.{Range, holds, table, starts, size_by, sequence_size, good_from, valid_up_to}
use Rattle.utf8.specs.Reading.{Passed}
use lib.ListN.{take}
use native.Mathlib.Nat.{add-zero}
use Prim.Native.Nat.{◌*◌, ◌/◌}
use Rattle.std.specs.Str.{IsAscii}
use Rattle.std.specs.Simd.{first_chunks}
use Rattle.octets.proofs.Sums.{block_at}
use Rattle.utf8.proofs.Rows.{size_ascii}

-- ---- a sequence lies in the text

starts_within : (row : List Range) (s : List ℕ) → starts row s ≡ true → length row ≤ length s
unfolding starts
starts_within [] s e = omega arith
starts_within (r ∷ row) [] e = absurd (false≢true e)
starts_within (r ∷ row) (b ∷ s) e =
    omega (arith, starts_within row s ((and-eq-true_iff (holds r b) (starts row s)).0 e).1)

pub size_within : (rows : List (List Range)) (s : List ℕ) → size_by rows s ≤ length s
unfolding size_by
size_within [] s = omega arith
size_within (row ∷ rows) s = go (starts row s) refl (size_within rows s)
  where
    go : (x : Bool) → starts row s ≡ x → size_by rows s ≤ length s → cond x (length row) (size_by rows s) ≤ length s
    go true e h = starts_within row s e
    go false e h = h

-- ---- how many bytes are good

-- The rest of a sequence is passed.
good_rest : (k : ℕ) (s : List ℕ) → k ≤ length s → good_from k s ≡ k + valid_up_to (drop k s)
unfolding good_from
good_rest zero s h = omega arith
good_rest (suc k) [] h = absurd (not-suc-le-zero h)
good_rest (suc k) (b ∷ s) h = omega (arith, good_rest k s (le_of_suc-le-suc h))

-- A sequence at the start is passed.
pub good_next : (s : List ℕ) (k : ℕ) → sequence_size s ≡ suc k → valid_up_to s ≡ suc k + valid_up_to (drop (suc k) s)
unfolding good_from
good_next [] k e = let h = size_within table [] in absurd (not-suc-le-zero (rw e at h))
good_next (b ∷ s) k e =
    let h = size_within table (b ∷ s) in
    let l : k ≤ length s = omega arith in
    let m : suc k - 1 ≡ k = omega arith in
    let r = good_rest k s l in
    rw (e, ne_eqb (suc k) 0 (λ z. omega arith), m) (omega arith)

-- Where none starts, nothing is.
pub good_stop : (s : List ℕ) → sequence_size s ≡ 0 → valid_up_to s ≡ 0
unfolding good_from
good_stop [] e = refl
good_stop (b ∷ s) e = rw e

pub bad_nil : valid_up_to [] ≡ 0
unfolding good_from
bad_nil = refl

pub good_within : (k : ℕ) (s : List ℕ) → good_from k s ≤ length s
unfolding good_from
good_within k [] = omega arith
good_within (suc k) (b ∷ s) = omega (arith, good_within k s)
good_within zero (b ∷ s) = go (eqb (sequence_size (b ∷ s)) 0) _ (good_within (sequence_size (b ∷ s) - 1) s)
  where
    go : (x : Bool) (n : ℕ) → n ≤ length s → cond x 0 (suc n) ≤ suc (length s)
    go true n h = omega arith
    go false n h = omega arith

-- ---- places that are passed

module _ {s : List ℕ} where
  pub pass_none : {i : ℕ} → i ≤ length s → Passed s i i
  pass_none h = record { within = h; onward = omega arith; same = refl }

  pub pass_then : {i j k : ℕ} → Passed s i j → Passed s j k → Passed s i k
  pass_then p q = record { within = q.within; onward = omega arith; same = p.same ∙ q.same }

pass_size : (s : List ℕ) (i k : ℕ) → i ≤ length s → sequence_size (drop i s) ≡ suc k → Passed s i (i + suc k)
pass_size s i k h e =
    let n = good_next (drop i s) k e in
    let w = size_within table (drop i s) in
    let d : drop (suc k) (drop i s) ≡ drop (i + suc k) s = drop-drop (suc k) i s in
    let l = length-drop i s in
    record { within = omega arith; onward = omega arith; same = rw (n, d) (omega arith) }

pub pass_found : (s : List ℕ) (i k : ℕ) → i ≤ length s → k ≡ sequence_size (drop i s) → k ≢ 0 → Passed s i (i + k)
pass_found s i zero h e n = absurd (n refl)
pass_found s i (suc k) h e n = pass_size s i k h (sym e)

pub pass_ascii : (s : List ℕ) (i : ℕ) → i < length s → get_or s i 0 < 0x80 → Passed s i (i + 1)
pass_ascii s i h a = pass_size s i 0 (omega arith) (ap (λ (t : List ℕ). sequence_size t) (drop-cons s i 0 h) ∙ size_ascii _ _ a)

-- Bytes of ASCII are passed, a run of them and blocks of them.
pub pass_run : (s : List ℕ) (i n : ℕ) → i + n ≤ length s → IsAscii (take n (drop i s)) → Passed s i (i + n)
pass_run s i zero h a = rw add-zero (pass_none (omega arith))
pass_run s i (suc n) h a =
    let l : i < length s = omega arith in
    let t = rw (drop-cons s i 0 l) at a in
    let e : i + 1 + n ≡ i + suc n = omega arith in
    let d : suc i ≡ i + 1 = omega arith in
    let rest : IsAscii (take n (drop (i + 1) s)) = rw (sym d) (λ k. t (suc k)) in
    pass_then (pass_ascii s i l (t 0)) (rw e at (pass_run s (i + 1) n (omega arith) rest))

pub pass_blocks : (s : List ℕ) (j : ℕ) → j ≤ length s / 64
    → ((i : ℕ) → i < j → IsAscii (get_or (first_chunks 64 (length s / 64) s) i [])) → Passed s 0 (64 * j)
pass_blocks s zero h a = pass_none (omega arith)
pass_blocks s (suc j) h a =
    let e : j * 64 + 64 ≡ 64 * suc j = omega arith in
    let f : 64 * j ≡ j * 64 = omega arith in
    let block : IsAscii (take 64 (drop (j * 64) s)) = rw (block_at 64 (length s / 64) s [] j (omega arith)) at (a j (omega arith)) in
    pass_then
    (rw f at (pass_blocks s j (omega arith) (λ i l. a i (omega arith))))
    (rw e at (pass_run s (j * 64) 64 (omega arith) block))

-- What is passed in the rest of a text is passed in the text.
pub pass_rest : (s : List ℕ) (i k : ℕ) → i ≤ length s → Passed (drop i s) 0 k → Passed s i (i + k)
pass_rest s i k h p =
    let l = length-drop i s in
    let d : drop k (drop i s) ≡ drop (i + k) s = drop-drop k i s in
    let same = rw d at p.same in
    record { within = omega (arith, p.within); onward = omega arith; same = omega (arith, same) }

-- Where the text goes wrong, or ends, is where no more is passed.
pub stops : (s : List ℕ) (i : ℕ) → Passed s 0 i → sequence_size (drop i s) ≡ 0 → i ≡ valid_up_to s
stops s i p e = omega (arith, good_stop (drop i s) e, p.same)

pub ends : (s : List ℕ) (i : ℕ) → Passed s 0 i → length s ≤ i → i ≡ valid_up_to s
unfolding table size_by starts
ends s i p h = stops s i p (ap (λ (t : List ℕ). sequence_size t) (drop_of_length-le s h))
