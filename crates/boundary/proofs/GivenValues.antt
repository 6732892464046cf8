-- What is returned and what stands in `out` where values are copied to its start, and where they do not fit.
use Prim.Native.Nat.{ℕ, ◌+◌, ◌<◌, ◌≤◌}
use mathlib.Core.Path.{◌≡◌, sym, ap, ◌∙◌}
use mathlib.Core.List.{List, ◌++◌}
use mathlib.Core.Bool.{Bool, true, false, cond}
use native.Mathlib.Omega.{arith}
use lib.ListN.{length, drop}
use lib.Seq.{sets, sets-eq}
use borrow.Author.Tests.{leb-true, leb-false, lt-ltb, le-ltb}
use Rattle.copies.specs.Copying.{fits_at, copied_at}
use Rattle.boundary.specs.Boundary.{refuses, gives, code_of, within, out_after}

module _ {A : Type 0} (old vs : List A) {out : List A} (left : out ≡ copied_at old 0 vs) where
  -- what was left, by whether the values fit
  left_by : (x : Bool) → fits_at old 0 vs ≡ x → out ≡ cond x (sets old 0 vs) old
  left_by x e = left ∙ ap (λ (y : Bool). cond y (sets old 0 vs) old) e

  pub given : true ≡ fits_at old 0 vs → (0 ≡ code_of (within (length old) (gives vs))) × (out ≡ out_after old (within (length old) (gives vs)))
  given t =
      let room : 0 + length vs ≤ length old = leb-true _ _ (sym t) in
      let e : within (length old) (gives vs) ≡ gives vs = simp (le-ltb (length old) (length vs) (omega arith)) in
      let n : 0 + length vs ≡ length vs = omega arith in
      (ap code_of (sym e), left_by true (sym t) ∙ sets-eq vs old 0 room ∙ ap (λ (k : ℕ). vs ++ drop k old) n ∙ ap (out_after old) (sym e))

  pub not_given : false ≡ fits_at old 0 vs → (15 ≡ code_of (within (length old) (gives vs))) × (out ≡ out_after old (within (length old) (gives vs)))
  not_given t =
      let short : length old < 0 + length vs = leb-false _ _ (sym t) in
      let e : within (length old) (gives vs) ≡ refuses 15 0 = simp (lt-ltb (length old) (length vs) (omega arith)) in
      (ap code_of (sym e), left_by false (sym t) ∙ ap (out_after old) (sym e))
