-- The longest duration is the greatest and the shortest the least that is not 0: by induction, one duration more at the front.
use Prim.Native.Nat.{ℕ, zero, suc, ◌+◌, ◌<◌, ◌≤◌}
use mathlib.Core.Path.{◌≡◌, refl, sym, subst, ◌∙◌}
use mathlib.Core.Bool.{Bool, true, false, cond}
use native.Mathlib.Omega.{arith}
use native.Mathlib.Decide.{ℕ_discrete}
use lib.Dec.{ltb, eqb}
use borrow.Author.Tests.{ltb-true, ltb-false, eqb-true, eqb-false}
use Rattle.refusals.proofs.Finding.{Each}
use Rattle.scp_fields.specs.Header.{revolutions}
use Rattle.scp_tracks.specs.Tracks.{duration_at}
use Rattle.scp_speed.specs.Durations.{longer, longest_from, shorter, shortest_from}
use Rattle.scp_theorems.specs.Theorems.{Longest, Shortest}

-- what holds of the first index and of the n after it
each : (P : ℕ → Type 0) (i n : ℕ) → P i → Each P (i + 1) n → Each P i (suc n)
each P i n p h k l u =
    elim (ℕ_discrete i k) [
      | yes e ↦ subst P e p
      | no e ↦ h k (omega arith) (omega arith)
    ]

module _ (f : ℕ → ℕ) where
  -- one of the n durations from index i on is m
  record Reached (i n m : ℕ) : Type 0 where
    index : ℕ
    lower : i ≤ index
    upper : index < i + n
    value : f index ≡ m

  first : (i n : ℕ) → Reached i (suc n) (f i)
  first i n = record { index = i; lower = omega arith; upper = omega arith; value = refl }

  later : (i n m : ℕ) → Reached (i + 1) n m → Reached i (suc n) m
  later i n m h =
      let l = h.lower in
      let u = h.upper in
      record { index = h.index; lower = omega arith; upper = omega arith; value = h.value }

  -- ---- the greatest

  -- m is the greatest of the n durations from index i on
  record GreatestFrom (i n m : ℕ) : Type 0 where
    bound : Each (λ k. f k ≤ m) i n
    reached : 0 < n → Reached i n m
    empty : n ≡ 0 → m ≡ 0

  -- where the first is at most m: it is m itself if it is the only one
  at_most : (i n m : ℕ) → f i ≤ m → GreatestFrom (i + 1) n m → Reached i (suc n) m
  at_most i zero m l h =
      let z = h.empty refl in
      let e : f i ≡ m = omega arith in
      record { index = i; lower = omega arith; upper = omega arith; value = e }
  at_most i (suc n) m l h = later i (suc n) m (h.reached (omega arith))

  greatest_next : (i n m : ℕ) → GreatestFrom (i + 1) n m → GreatestFrom i (suc n) (longer (f i) m)
  greatest_next i n m h = go (ltb m (f i)) refl
    where
      go : (x : Bool) → ltb m (f i) ≡ x → GreatestFrom i (suc n) (cond x (f i) m)
      go true q =
          let above = ltb-true m (f i) q in
          record {
            bound = each (λ k. f k ≤ f i) i n (omega arith) (λ k l u. let b = h.bound k l u in omega arith);
            reached = λ p. first i n;
            empty = λ e. absurd (omega arith);
          }
      go false q =
          let l = ltb-false m (f i) q in
          record {
            bound = each (λ k. f k ≤ m) i n l h.bound;
            reached = λ p. at_most i n m l h;
            empty = λ e. absurd (omega arith);
          }

  greatest_from : (i n : ℕ) → GreatestFrom i n (longest_from f i n)
  unfolding longest_from
  greatest_from i zero =
      record { bound = λ k l u. absurd (omega arith); reached = λ p. absurd (omega arith); empty = λ e. refl }
  greatest_from i (suc n) = greatest_next i n (longest_from f (i + 1) n) (greatest_from (i + 1) n)

  -- ---- the least that is not 0

  -- m is the least nonzero of the n durations from index i on
  record LeastFrom (i n m : ℕ) : Type 0 where
    zeros : m ≡ 0 → Each (λ k. f k ≡ 0) i n
    reached : (m ≡ 0 → ⊥) → Reached i n m
    bound : Each (λ k. (f k ≡ 0 → ⊥) → m ≤ f k) i n

  module _ (i n m : ℕ) (h : LeastFrom (i + 1) n m) where
    -- the first is 0
    without : f i ≡ 0 → LeastFrom i (suc n) m
    without e =
        record {
          zeros = λ z. each (λ k. f k ≡ 0) i n e (h.zeros z);
          reached = λ p. later i n m (h.reached p);
          bound = each (λ k. (f k ≡ 0 → ⊥) → m ≤ f k) i n (λ p. absurd (p e)) h.bound;
        }

    -- the first is not 0, and each later one that is not is at least as long
    with_first : (f i ≡ 0 → ⊥) → Each (λ k. (f k ≡ 0 → ⊥) → f i ≤ f k) (i + 1) n → LeastFrom i (suc n) (f i)
    with_first p b =
        record {
          zeros = λ z. absurd (p z);
          reached = λ q. first i n;
          bound = each (λ k. (f k ≡ 0 → ⊥) → f i ≤ f k) i n (λ q. omega arith) b;
        }

    -- a later one is not 0, and the first is at least as long
    with_later : m ≤ f i → (m ≡ 0 → ⊥) → LeastFrom i (suc n) m
    with_later l p =
        record {
          zeros = λ z. absurd (p z);
          reached = λ q. later i n m (h.reached p);
          bound = each (λ k. (f k ≡ 0 → ⊥) → m ≤ f k) i n (λ q. l) h.bound;
        }

    least_next : LeastFrom i (suc n) (shorter (f i) m)
    least_next = go (eqb (f i) 0) refl (eqb m 0) refl (ltb (f i) m) refl
      where
        go : (x : Bool) → eqb (f i) 0 ≡ x → (y : Bool) → eqb m 0 ≡ y → (w : Bool) → ltb (f i) m ≡ w
            → LeastFrom i (suc n) (cond x m (cond y (f i) (cond w (f i) m)))
        go true q y r w s = without (eqb-true (f i) 0 q)
        go false q true r w s =
            with_first (eqb-false (f i) 0 q) (λ k l u p. absurd (p (h.zeros (eqb-true m 0 r) k l u)))
        go false q false r true s =
            let below = ltb-true (f i) m s in
            with_first (eqb-false (f i) 0 q) (λ k l u p. let b = h.bound k l u p in omega arith)
        go false q false r false s = with_later (ltb-false (f i) m s) (eqb-false m 0 r)

  least_from : (i n : ℕ) → LeastFrom i n (shortest_from f i n)
  unfolding shortest_from
  least_from i zero =
      record { zeros = λ z k l u. absurd (omega arith); reached = λ p. absurd (p refl); bound = λ k l u. absurd (omega arith) }
  least_from i (suc n) = least_next i n (shortest_from f (i + 1) n) (least_from (i + 1) n)

-- ---- of a track

pub longest_is_greatest : Longest
longest_is_greatest b e =
    let h = greatest_from (duration_at b e) 0 (revolutions b) in
    record {
      bound = λ k l. h.bound k (omega arith) (omega arith);
      reached = λ p. let r = h.reached p in (r.index, omega arith, r.value);
      none = h.empty;
    }

pub shortest_is_least : Shortest
shortest_is_least b e =
    let h = least_from (duration_at b e) 0 (revolutions b) in
    record {
      none = (
        λ z k l. h.zeros z k (omega arith) (omega arith),
        λ a.
            elim (ℕ_discrete (shortest_from (duration_at b e) 0 (revolutions b)) 0) [
              | yes z ↦ z
              | no p ↦ let r = h.reached p in let u = r.upper in absurd (p (sym r.value ∙ a r.index (omega arith)))
            ],
      );
      reached = λ p. let r = h.reached p in let u = r.upper in (r.index, omega arith, r.value);
      bound = λ k l. h.bound k (omega arith) (omega arith);
    }
