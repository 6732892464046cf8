-- A loop that searches upwards from i below n. Its invariant is that what is to be found from i on is r; here stand what holds where it
-- stops, where it goes on, and where it ends.
use Prim.Native.Nat.{ℕ, zero, suc, ◌+◌, ◌-◌, ◌<◌, ◌≤◌}
use mathlib.Core.Path.{◌≡◌, refl, sym, ap, ap₂, ◌∙◌}
use mathlib.Core.Bool.{Bool, true, false, ◌||◌, or_assoc, or-false}
use native.Mathlib.Omega.{arith}
use borrow.Author.Tests.{eq-eqb}
use Rattle.refusals.specs.Refusals.{Fault, none, refuse_if, first_of}
use Rattle.refusals.specs.Search.{any_from, first_from}
use Rattle.refusals.proofs.Chain.{first_here}
use Rattle.refusals.proofs.Finding.{neither}

left_suc : (i n : ℕ) → i < n → n - i ≡ suc (n - (i + 1))
left_suc i n h = omega arith

left_none : (i n : ℕ) → n ≤ i → n - i ≡ 0
left_none i n h = omega arith

module _ (p : ℕ → Bool) {i n : ℕ} {r : Bool} (inv : any_from p i (n - i) ≡ r) where
  any_step : i < n → r ≡ (p i || any_from p (i + 1) (n - (i + 1)))
  unfolding any_from
  any_step h = sym inv ∙ ap (any_from p i) (left_suc i n h)

  pub any_here : i < n → p i ≡ true → true ≡ r
  any_here h t = sym (any_step h ∙ simp t)

  pub any_next : i < n → p i ≡ false → any_from p (i + 1) (n - (i + 1)) ≡ r
  any_next h t = sym (any_step h ∙ simp t)

  pub any_end : n ≤ i → false ≡ r
  unfolding any_from
  any_end h = sym (sym inv ∙ ap (any_from p i) (left_none i n h))

-- the same for a loop that looks at a block of m indices in a turn
module _ (p : ℕ → Bool) where
  any_split : (i m n : ℕ) → any_from p i (m + n) ≡ (any_from p i m || any_from p (i + m) n)
  unfolding any_from
  any_split i zero n =
      let e : 0 + n ≡ n = omega arith in
      let f : i + 0 ≡ i = omega arith in
      rw (e, f)
  any_split i (suc m) n =
      let e : suc m + n ≡ suc (m + n) = omega arith in
      let f : i + suc m ≡ i + 1 + m = omega arith in
      rw (e, f) (ap (λ (x : Bool). p i || x) (any_split (i + 1) m n) ∙ sym (or_assoc (p i) (any_from p (i + 1) m) (any_from p (i + 1 + m) n)))

  -- a block grows by the index behind it
  pub any_more : (i m : ℕ) → (any_from p i m || p (i + m)) ≡ any_from p i (m + 1)
  unfolding any_from
  any_more i m = sym (any_split i m 1 ∙ ap (λ (x : Bool). any_from p i m || x) (or-false (p (i + m))))

  -- a loop from 0 that no finding ends: what it found so far, or at index k, is what it found of the first k + 1
  pub any_so_far : (k : ℕ) {x y : Bool} → x ≡ any_from p 0 k → y ≡ p k → (x || y) ≡ any_from p 0 (k + 1)
  any_so_far k {x} {y} e f =
      let front : 0 + k ≡ k = omega arith in
      ap₂ ◌||◌ e f ∙ simp front at (any_more 0 k)

module _ (p : ℕ → Bool) (i m : ℕ) {n : ℕ} {r : Bool} (inv : any_from p i (n - i) ≡ r) (fits : i + m ≤ n) where
  block_step : r ≡ (any_from p i m || any_from p (i + m) (n - (i + m)))
  block_step = sym inv ∙ (ap (any_from p i) (omega arith) ∙ any_split p i m (n - (i + m)))

  pub block_here : any_from p i m ≡ true → true ≡ r
  block_here t = sym (block_step ∙ simp t)

  pub block_next : any_from p i m ≡ false → any_from p (i + m) (n - (i + m)) ≡ r
  block_next t = sym (block_step ∙ simp t)

-- the same for a loop that looks at two indices in a turn, where x and y stand for what it finds, and at the one that may be left by itself
module _ (p : ℕ → Bool) (i : ℕ) {n : ℕ} {r : Bool} (inv : any_from p i (n - i) ≡ r) where
  pub two_here : {x y : Bool} → x ≡ p i → y ≡ p (i + 1) → i + 1 < n → (x || y) ≡ true → true ≡ r
  two_here {x} {y} e f h t = by x refl
    where
      by : (v : Bool) → x ≡ v → true ≡ r
      by true q = any_here p inv (omega arith) (sym e ∙ q)
      by false q = any_here p (any_next p inv (omega arith) (sym e ∙ q)) h (sym f ∙ sym (ap (λ (v : Bool). v || y) q) ∙ t)

  pub two_next : {x y : Bool} → x ≡ p i → y ≡ p (i + 1) → i + 1 < n → (x || y) ≡ false → any_from p (i + 2) (n - (i + 2)) ≡ r
  two_next {x} {y} e f h t =
      let both = neither x y t in
      let two : i + 2 ≡ i + 1 + 1 = omega arith in
      rw two (any_next p (any_next p inv (omega arith) (sym e ∙ both.0)) h (sym f ∙ both.1))

  pub last_here : i < n → n ≤ i + 1 → p i ≡ r
  last_here h l = by (p i) refl
    where
      by : (v : Bool) → p i ≡ v → p i ≡ r
      by true e = e ∙ any_here p inv h e
      by false e = e ∙ any_end p (any_next p inv h e) l

-- v is the finding at i
module _ (f : ℕ → Fault) {i n : ℕ} {r : Fault} (inv : first_from f i (n - i) ≡ r) where
  first_step : i < n → first_of (f i) (first_from f (i + 1) (n - (i + 1))) ≡ r
  unfolding first_from
  first_step h = sym (ap (first_from f i) (left_suc i n h)) ∙ inv

  pub found_here : {v : Fault} → i < n → v ≡ f i → (v.number ≡ 0 → ⊥) → v ≡ r
  found_here {v} h e t = first_here (f i) (first_from f (i + 1) (n - (i + 1))) e t ∙ first_step h

  pub found_next : {v : Fault} → i < n → v ≡ f i → v.number ≡ 0 → first_from f (i + 1) (n - (i + 1)) ≡ r
  unfolding refuse_if first_of
  found_next {v} h e t = sym (simp (eq-eqb (f i).number 0 (ap (λ (x : Fault). x.number) (sym e) ∙ t))) ∙ first_step h

  pub found_none : n ≤ i → none ≡ r
  unfolding first_from
  found_none h = sym (sym inv ∙ ap (first_from f i) (left_none i n h))
