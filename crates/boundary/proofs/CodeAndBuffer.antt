-- What a call hands on: its code and its buffer are those of the answer, whatever it is equal to.
use Prim.Native.Nat.{ℕ, ◌≤◌}
use mathlib.Core.Path.{◌≡◌, sym, ap, ◌∙◌}
use mathlib.Core.List.{List, [], ◌∷◌}
use native.Mathlib.Omega.{arith}
use lib.ListN.{length}
use borrow.Author.Tests.{le-ltb}
use Rattle.boundary.specs.Boundary.{Given, refuses, gives, packed, code_of, within, out_after}

module _ {A : Type 0} (old : List A) {r : ℕ} where
  -- values that were given
  pub pass_values : {out : List A} {g h : Given A} → g ≡ h
      → (r ≡ code_of (within (length old) g)) × (out ≡ out_after old (within (length old) g))
      → (r ≡ code_of (within (length old) h)) × (out ≡ out_after old (within (length old) h))
  pass_values e p =
      (p.0 ∙ ap (λ (g : Given A). code_of (within (length old) g)) e, p.1 ∙ ap (λ (g : Given A). out_after old (within (length old) g)) e)

  -- a refusal, which leaves the buffer as it was
  pub pass_refusal : {n p : ℕ} {h : Given A} → refuses n p ≡ h → r ≡ packed n p
      → (r ≡ code_of (within (length old) h)) × (old ≡ out_after old (within (length old) h))
  pass_refusal e k = (k ∙ ap (λ (g : Given A). code_of (within (length old) g)) e, ap (λ (g : Given A). out_after old (within (length old) g)) e)

-- no values, which always fit and leave the buffer as it was
pub pass_nothing : {A : Type 0} (old : List A) {h : Given A} → gives [] ≡ h
    → (0 ≡ code_of (within (length old) h)) × (old ≡ out_after old (within (length old) h))
pass_nothing {A} old e =
    let room : 0 ≤ length old = omega arith in
    let fit : ◌≡◌ {A = Given A} (within (length old) (gives [])) (gives []) = simp (le-ltb (length old) 0 room) in
    let same = sym fit ∙ ap (within (length old)) e in
    (ap code_of same, ap (out_after old) same)

-- the first of the values said otherwise
pub first_same : {A : Type 0} {x y : A} {rest : List A} → x ≡ y → gives (x ∷ rest) ≡ gives (y ∷ rest)
first_same {rest = rest} e = ap (λ z. gives (z ∷ rest)) e
