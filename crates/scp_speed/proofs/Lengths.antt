-- The longest and the shortest duration: of some durations and those behind them, whichever are taken first.
use mathlib.Core.Path.{◌≡◌, refl, sym, ap, ◌∙◌}
use mathlib.Core.Bool.{Bool, true, false}
use Prim.Native.Nat.{ℕ, suc, ◌+◌, ◌-◌, ◌<◌, ◌≤◌, min, max}
use native.Mathlib.Decide.{ℕ_discrete}
use native.Mathlib.Omega.{arith}
use lib.Dec.{ltb}
use borrow.Author.Tests.{ltb-true, ltb-false, ne_eqb}
use Rattle.scp_speed.specs.Durations.{longer, longest_from, shorter, shortest_from}

pub longer_is_max : (a b : ℕ) → longer a b ≡ max a b
longer_is_max a b = by (ltb b a) refl
  where
    by : (t : Bool) → ltb b a ≡ t → longer a b ≡ max a b
    by true e = let h = ltb-true b a e in rw e (omega arith)
    by false e = let h = ltb-false b a e in rw e (omega arith)

pub max_none : {a : ℕ} → max 0 a ≡ a
max_none = omega arith

pub shorter_is_min : (a b : ℕ) → (a ≡ 0 → ⊥) → (b ≡ 0 → ⊥) → shorter a b ≡ min a b
shorter_is_min a b p q = by (ltb a b) refl
  where
    by : (t : Bool) → ltb a b ≡ t → shorter a b ≡ min a b
    by true e = let h = ltb-true a b e in simp (ne_eqb a 0 p, ne_eqb b 0 q, e) (omega arith)
    by false e = let h = ltb-false a b e in simp (ne_eqb a 0 p, ne_eqb b 0 q, e) (omega arith)

shorter_none : (a : ℕ) → shorter a 0 ≡ a
shorter_none a = elim (ℕ_discrete a 0) [ yes e ↦ rw e refl | no n ↦ simp (ne_eqb a 0 n) ]

shorter_assoc : (a b c : ℕ) → shorter (shorter a b) c ≡ shorter a (shorter b c)
shorter_assoc a b c =
    elim (ℕ_discrete a 0) [
      | yes e ↦ rw e refl
      | no n ↦ elim (ℕ_discrete b 0) [
        | yes f ↦ rw (f, shorter_none a) refl
        | no m ↦ elim (ℕ_discrete c 0) [
          | yes g ↦ rw (g, shorter_none (shorter a b), shorter_none b) refl
          | no l ↦
              rw (shorter_is_min a b n m, shorter_is_min b c m l)
              (shorter_is_min (min a b) c (λ z. omega arith) l ∙ omega arith ∙ sym (shorter_is_min a (min b c) n (λ z. omega arith)))
        ]
      ]
    ]

left_suc : (i n : ℕ) → i < n → n - i ≡ suc (n - (i + 1))
left_suc i n h = omega arith

-- most is the longest so far, least the shortest; with those from i on they are those of all
module _ (f : ℕ → ℕ) where
  pub longest_next : (most : ℕ) {r : ℕ} (i n : ℕ) → i < n → max most (longest_from f i (n - i)) ≡ r → max (max most (f i)) (longest_from f (i + 1) (n - (i + 1))) ≡ r
  unfolding longest_from
  longest_next most i n h e =
      let next = longer_is_max (f i) (longest_from f (i + 1) (n - (i + 1))) in
      let all = ap (λ (k : ℕ). max most (longest_from f i k)) (left_suc i n h) in
      omega (arith, next, all, e)

  pub longest_end : (most : ℕ) {r : ℕ} (i n : ℕ) → n ≤ i → max most (longest_from f i (n - i)) ≡ r → most ≡ r
  unfolding longest_from
  longest_end most i n h e = let none : n - i ≡ 0 = omega arith in omega (arith, ap (λ (k : ℕ). max most (longest_from f i k)) none, e)

  pub shortest_next : (least : ℕ) {r : ℕ} (i n : ℕ) → i < n → shorter least (shortest_from f i (n - i)) ≡ r
      → shorter (shorter least (f i)) (shortest_from f (i + 1) (n - (i + 1))) ≡ r
  unfolding shortest_from
  shortest_next least i n h e =
      shorter_assoc least (f i) _ ∙ sym (ap (λ (k : ℕ). shorter least (shortest_from f i k)) (left_suc i n h)) ∙ e

  pub shortest_end : (least : ℕ) {r : ℕ} (i n : ℕ) → n ≤ i → shorter least (shortest_from f i (n - i)) ≡ r → least ≡ r
  unfolding shortest_from
  shortest_end least i n h e =
      let none : n - i ≡ 0 = omega arith in
      sym (shorter_none least) ∙ sym (ap (λ (k : ℕ). shorter least (shortest_from f i k)) none) ∙ e
