-- Two extents meet exactly if a byte lies in both: where neither is empty and each starts before the other ends, the later start is one.
-- So by which of them starts first, the other starts in it and is not empty.
use Prim.Native.Nat.{ℕ, ◌+◌, ◌-◌, ◌<◌, ◌≤◌, max}
use mathlib.Core.Path.{◌≡◌, refl, sym}
use mathlib.Core.Logic.{◌⊎◌, inl, inr}
use mathlib.Core.Bool.{Bool, true, false, ◌&&◌, or-true, and-false, and-eq-true_iff}
use native.Mathlib.Omega.{arith}
use lib.Dec.{ltb}
use borrow.Author.Tests.{ltb-true, ltb-false, lt-ltb, le-ltb}
use Rattle.refusals.proofs.Finding.{either}
use Rattle.scp_sharing.specs.Extents.{meets, In}
use Rattle.scp_sharing.specs.Claims.{hit}
use Rattle.scp_sharing.specs.Walk.{Spans}
use Rattle.scp_sharing.specs.declared.Extent.{Extent}
use Rattle.scp_sharing.specs.declared.Stand.{Stand}

module _ (x y : Extent) where
  pub meets_true : (i : ℕ) → In i x → In i y → meets x y ≡ true
  unfolding meets
  meets_true i p q =
      rw (
        lt-ltb x.start (y.start + y.size) (omega arith),
        lt-ltb y.start (x.start + x.size) (omega arith),
        lt-ltb 0 x.size (omega arith),
        lt-ltb 0 y.size (omega arith),
      )

  pub meets_byte : meets x y ≡ true → (i : ℕ) × In i x × In i y
  unfolding meets
  meets_byte e =
      let both = (and-eq-true_iff (ltb x.start (y.start + y.size) && ltb y.start (x.start + x.size)) _).0 e in
      let starts = (and-eq-true_iff (ltb x.start (y.start + y.size)) _).0 both.0 in
      let sizes = (and-eq-true_iff (ltb 0 x.size) _).0 both.1 in
      (max x.start y.start, omega (arith, ltb-true), omega (arith, ltb-true))

  -- where x starts first they meet if y starts in x and is not empty, and the other way round
  pub meets_later : x.start < y.start → (ltb (y.start - x.start) x.size && ltb 0 y.size) ≡ meets x y
  unfolding meets
  meets_later h = by (ltb (y.start - x.start) x.size) refl
    where
      by : (p : Bool) → ltb (y.start - x.start) x.size ≡ p
          → (p && ltb 0 y.size)
          ≡ ((ltb x.start (y.start + y.size) && ltb y.start (x.start + x.size)) && (ltb 0 x.size && ltb 0 y.size))
      by true q =
          let f = ltb-true (y.start - x.start) x.size q in
          let first : x.start < y.start + y.size = omega arith in
          let in-x : y.start < x.start + x.size = omega arith in
          let some : 0 < x.size = omega arith in
          sym (simp (lt-ltb _ _ first, lt-ltb _ _ in-x, lt-ltb _ _ some))
      by false q =
          let f = ltb-false (y.start - x.start) x.size q in
          let past : x.start + x.size ≤ y.start = omega arith in
          sym (simp (le-ltb _ _ past, and-false))

  pub meets_earlier : y.start ≤ x.start → (ltb (x.start - y.start) y.size && ltb 0 x.size) ≡ meets x y
  unfolding meets
  meets_earlier h = by (ltb (x.start - y.start) y.size) refl
    where
      by : (p : Bool) → ltb (x.start - y.start) y.size ≡ p
          → (p && ltb 0 x.size)
          ≡ ((ltb x.start (y.start + y.size) && ltb y.start (x.start + x.size)) && (ltb 0 x.size && ltb 0 y.size))
      by true q =
          let f = ltb-true (x.start - y.start) y.size q in
          let in-y : x.start < y.start + y.size = omega arith in
          let some : 0 < y.size = omega arith in
          filled (ltb 0 x.size) refl in-y some
        where
          filled : (r : Bool) → ltb 0 x.size ≡ r → x.start < y.start + y.size → 0 < y.size
              → r ≡ ((ltb x.start (y.start + y.size) && ltb y.start (x.start + x.size)) && (r && ltb 0 y.size))
          filled true e in-y some =
              let g = ltb-true 0 x.size e in
              let later : y.start < x.start + x.size = omega arith in
              sym (simp (lt-ltb _ _ in-y, lt-ltb _ _ later, lt-ltb _ _ some))
          filled false e in-y some = sym (simp and-false)
      by false q =
          let f = ltb-false (x.start - y.start) y.size q in
          let past : y.start + y.size ≤ x.start = omega arith in
          sym (simp (le-ltb _ _ past))

-- A rewrite that stands on s stands on byte i.
abbrev pub On : Stand → ℕ → Type 0
On s i = In i s.numbers ⊎ In i s.flux

module _ (s : Stand) (x : Extent) where
  pub hit_true : (i : ℕ) → On s i → In i x → hit s x ≡ true
  unfolding hit
  hit_true i (inl p) q = simp (meets_true s.numbers x i p q)
  hit_true i (inr p) q = simp (meets_true s.flux x i p q, or-true)

  pub hit_byte : hit s x ≡ true → (i : ℕ) × On s i × In i x
  unfolding hit
  hit_byte e =
      elim (either (meets s.numbers x) (meets s.flux x) e) [
        | inl l ↦ (let r = meets_byte s.numbers x l in (r.0, inl r.1, r.2))
        | inr l ↦ (let r = meets_byte s.flux x l in (r.0, inr r.1, r.2))
      ]

  pub hit_none : ((i : ℕ) → On s i → In i x → ⊥) → hit s x ≡ false
  hit_none none = by (hit s x) refl
    where
      by : (v : Bool) → hit s x ≡ v → hit s x ≡ false
      by true e = let r = hit_byte e in absurd (none r.0 r.1 r.2)
      by false e = e

  -- what lies behind or before all that the rewrite stands on is not hit
  pub hit_behind : {from to : ℕ} → Spans s from to → x.start < 18_446_744_073_709_551_615 → to ≤ x.start → hit s x ≡ false
  hit_behind spans small h =
      let ends = spans.ends (omega arith) in
      hit_none (λ i on at. elim on [ inl p ↦ omega arith | inr p ↦ omega arith ])

  pub hit_before : {from to : ℕ} → Spans s from to → x.start + x.size ≤ from → hit s x ≡ false
  hit_before spans h = hit_none (λ i on at. elim on [ inl p ↦ omega arith | inr p ↦ omega arith ])
