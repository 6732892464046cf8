-- A loop that fills the front of a list of zeros: every index passed has its number, so in the end it is the list of them, with the zeros
-- that are left behind them.
use Prim.Native.Nat.{ℕ, zero, suc, ◌+◌, ◌<◌, ◌≤◌}
use mathlib.Core.Path.{◌≡◌, refl, sym, ap, ◌∙◌}
use mathlib.Core.List.{List}
use native.Mathlib.Omega.{arith}
use native.Mathlib.Nat.{le_of_suc-le-suc, not-suc-le-zero}
use native.Mathlib.Decide.{dec_le}
use borrow.Author.Count.{below_more}
use lib.ListN.{length, get_or, set, replicate, length-set, length-replicate, get_or-replicate}
use lib.Seq.{ext_get_or, get_or-set_same, get_or-set_other}
use Rattle.refusals.specs.Search.{list_from}

module _ (f : ℕ → ℕ) where
  length_list : (i n : ℕ) → length (list_from f i n) ≡ n
  unfolding list_from
  length_list i zero = refl
  length_list i (suc n) = ap suc (length_list (i + 1) n)

  list_at_from : (i n k : ℕ) → k < n → get_or (list_from f i n) k 0 ≡ f (i + k)
  unfolding list_from
  list_at_from i zero k h = absurd (not-suc-le-zero h)
  list_at_from i (suc n) zero h = ap f (omega arith)
  list_at_from i (suc n) (suc k) h = list_at_from (i + 1) n k (le_of_suc-le-suc h) ∙ ap f (omega arith)

  -- the number at an index of the list
  pub list_at : (n k : ℕ) → k < n → get_or (list_from f 0 n) k 0 ≡ f k
  list_at n k h = list_at_from 0 n k h ∙ ap f (omega arith)

-- t has the first i of the numbers f 0, f 1, .., and zeros behind them
pub record Filled (f : ℕ → ℕ) (t : List ℕ) (i : ℕ) : Type 0 where
  pub at : (k : ℕ) → k < i → get_or t k 0 ≡ f k
  pub behind : (k : ℕ) → i ≤ k → k < length t → get_or t k 0 ≡ 0

pub fill_none : {f : ℕ → ℕ} (n : ℕ) → Filled f (replicate n 0) 0
fill_none n =
    record { at = λ k h. absurd (not-suc-le-zero h); behind = λ k h l. get_or-replicate n k 0 0 (rw (length-replicate {A = ℕ} n 0) at l) }

pub fill_next : {f : ℕ → ℕ} {t : List ℕ} {i v : ℕ} → Filled f t i → i < length t → v ≡ f i → Filled f (set t i v) (i + 1)
fill_next {f} {t} {i} {v} all h e =
    record {
      at =
          below_more (λ (k : ℕ). get_or (set t i v) k 0 ≡ f k) i
          (λ k l. get_or-set_other t i k v 0 (λ q. omega arith) ∙ all.at k l)
          (get_or-set_same t i v 0 h ∙ e);
      behind = λ k l m. get_or-set_other t i k v 0 (λ q. omega arith) ∙ all.behind k (omega arith) (rw (length-set t i v) at m);
    }

-- filled up to i, it is the list of numbers g 0, g 1, .. that are f's below i, and 0 from there on
pub fill_end : {f g : ℕ → ℕ} {t : List ℕ} {i n : ℕ} → Filled f t i → length t ≡ n → ((k : ℕ) → k < i → g k ≡ f k)
    → ((k : ℕ) → i ≤ k → g k ≡ 0) → t ≡ list_from g 0 n
fill_end {f} {g} {t} {i} {n} all e below behind =
    ext_get_or 0 t (list_from g 0 n) (e ∙ sym (length_list g 0 n))
    (λ k l. let m : k < n = omega (arith, e) in same k l ∙ sym (list_at g n k m))
  where
    same : (k : ℕ) → k < length t → get_or t k 0 ≡ g k
    same k l =
        elim (dec_le i k) [
          | yes h ↦ all.behind k h l ∙ sym (behind k h)
          | no h ↦ (let m : k < i = omega arith in all.at k m ∙ sym (below k m))
        ]
