-- Stores one behind the other are one store of all their bytes; and a loop that stores the parts of a list, one after the other.
use Prim.Native.Nat.{ℕ, suc, ◌+◌, ◌-◌, ◌<◌, ◌≤◌}
use mathlib.Core.Path.{◌≡◌, refl, sym, ap, ◌∙◌}
use mathlib.Core.List.{List, [], ◌++◌}
use native.Mathlib.Omega.{arith}
use lib.ListN.{length, drop}
use lib.Seq.{sets, sets-eq, length-sets}
use Rattle.octets.proofs.Numbers.{sets_append}
use Rattle.copies.specs.Copying.{copied_at}
use Rattle.copies.proofs.CopyLaws.{copy_fits}
use Rattle.dsk_write.specs.Images.{joined_from}

-- ---- one behind the other

-- xs are stored at i, and then ys behind them
pub then_put : (d : List ℕ) {e f : List ℕ} (i : ℕ) (xs : List ℕ) (j : ℕ) (ys : List ℕ) → e ≡ sets d i xs → f ≡ sets e j ys → i + length xs ≡ j
    → f ≡ sets d i (xs ++ ys)
then_put d i xs j ys p q r =
    q ∙ ap (λ (x : List ℕ). sets x j ys) p ∙ ap (λ (n : ℕ). sets (sets d i xs) n ys) (sym r) ∙ sets_append xs ys d i

-- the same where they are copied, and fit
pub then_copy : (d : List ℕ) {e f : List ℕ} (i : ℕ) (xs : List ℕ) (j : ℕ) (ys : List ℕ) → e ≡ sets d i xs → f ≡ copied_at e j ys → i + length xs ≡ j
    → j + length ys ≤ length d → f ≡ sets d i (xs ++ ys)
then_copy d {e} i xs j ys p q r h =
    let same : length e ≡ length d = ap (λ (x : List ℕ). length x) p ∙ length-sets d i xs in
    then_put d i xs j ys p (q ∙ copy_fits e ys j (omega arith)) r

-- a store from the start on that fits
pub at_start : (d xs : List ℕ) → length xs ≤ length d → sets d 0 xs ≡ xs ++ drop (length xs) d
at_start d xs h =
    let room : 0 + length xs ≤ length d = omega arith in
    let n : 0 + length xs ≡ length xs = omega arith in
    sets-eq xs d 0 room ∙ ap (λ (k : ℕ). xs ++ drop k d) n

-- ---- part by part

joined_next : (part : ℕ → List ℕ) (k n : ℕ) → k < n → joined_from part k (n - k) ≡ part k ++ joined_from part (k + 1) (n - (k + 1))
unfolding joined_from
joined_next part k n h = let e : n - k ≡ suc (n - (k + 1)) = omega arith in ap (joined_from part k) e

joined_end : (part : ℕ → List ℕ) (k n : ℕ) → n ≤ k → joined_from part k (n - k) ≡ []
unfolding joined_from
joined_end part k n h = let e : n - k ≡ 0 = omega arith in ap (joined_from part k) e

-- Of n parts, each at its place, the first k are stored in `image`, and storing the others makes what is to be made of `old`.
pub record Storing (part : ℕ → List ℕ) (place : ℕ → ℕ) (n : ℕ) (old image : List ℕ) (k : ℕ) : Type 0 where
  pub reached : k ≤ n
  pub same : length image ≡ length old
  pub left : sets image (place k) (joined_from part k (n - k)) ≡ sets old (place 0) (joined_from part 0 n)

module _ (part : ℕ → List ℕ) (place : ℕ → ℕ) (n : ℕ) (old : List ℕ) where
  pub store_next : {image next : List ℕ} {k : ℕ} → Storing part place n old image k → k < n → place k + length (part k) ≡ place (k + 1)
      → next ≡ sets image (place k) (part k) → Storing part place n old next (k + 1)
  store_next {image} {next} {k} p h e q =
      record {
        reached = omega arith;
        same = ap (λ (x : List ℕ). length x) q ∙ length-sets image (place k) (part k) ∙ p.same;
        left =
            then_put image (place k) (part k) (place (k + 1)) (joined_from part (k + 1) (n - (k + 1))) q refl e
            ∙ ap (sets image (place k)) (sym (joined_next part k n h)) ∙ p.left;
      }

  pub store_end : {image : List ℕ} {k : ℕ} → Storing part place n old image k → n ≤ k → image ≡ sets old (place 0) (joined_from part 0 n)
  store_end {image} {k} p h = sym (ap (sets image (place k)) (joined_end part k n h)) ∙ p.left
