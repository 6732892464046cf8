-- What searches and refusals say where they find something and where they do not: searches by induction on their number of indices,
-- refusals by the cases of their test.
use Prim.Native.Nat.{ℕ, zero, suc, ◌+◌, ◌<◌, ◌≤◌}
use mathlib.Core.Path.{◌≡◌, refl, sym, ap, ◌∙◌}
use mathlib.Core.Logic.{◌↔◌, ◌⊎◌, inl, inr}
use mathlib.Core.Bool.{Bool, true, false, not, ◌||◌, true≢false}
use native.Mathlib.Decide.{ℕ_discrete}
use native.Mathlib.Omega.{arith}
use lib.Dec.{eqb}
use borrow.Author.Tests.{eqb-true, eqb-false, eq-eqb}
use Rattle.refusals.specs.Refusals.{Fault, none, refusal, passes, refuse_if, first_of}
use Rattle.refusals.specs.Search.{any_from, first_from}

-- ---- one of two tests

pub either : (x y : Bool) → x || y ≡ true → (x ≡ true) ⊎ (y ≡ true)
either true y e = inl refl
either false y e = inr e

pub neither : (x y : Bool) → x || y ≡ false → (x ≡ false) × (y ≡ false)
neither true y e = absurd (true≢false e)
neither false y e = (refl, e)

-- ---- each of n indices from i on

abbrev pub Each : (ℕ → Type 0) → ℕ → ℕ → Type 0
Each P i n = (j : ℕ) → i ≤ j → j < i + n → P j

module _ {P : ℕ → Type 0} (i : ℕ) where
  each_next : (n : ℕ) → P i → Each P (i + 1) n → Each P i (suc n)
  each_next n h rest j a z = elim (ℕ_discrete j i) [ yes q ↦ rw q h | no q ↦ rest j (omega arith) (omega arith) ]

  each_first : (n : ℕ) → Each P i (suc n) → P i
  each_first n h = h i (omega arith) (omega arith)

  each_rest : (n : ℕ) → Each P i (suc n) → Each P (i + 1) n
  each_rest n h j a z = h j (omega arith) (omega arith)

-- ---- some index passes

pub any_true : (p : ℕ → Bool) (i n : ℕ) → any_from p i n ≡ true → (j : ℕ) × (i ≤ j) × (j < i + n) × (p j ≡ true)
unfolding any_from
any_true p i zero e = absurd (true≢false (sym e))
any_true p i (suc n) e =
    elim (either (p i) (any_from p (i + 1) n) e) [
      | inl l ↦ (i, omega arith, omega arith, l)
      | inr r ↦ (let f = any_true p (i + 1) n r in (f.0, omega arith, omega arith, f.3))
    ]

pub from_none : (p : ℕ → Bool) (i n : ℕ) → any_from p i n ≡ false → Each (λ j. p j ≡ false) i n
unfolding any_from
from_none p i zero e = λ j a z. absurd (omega arith)
from_none p i (suc n) e =
    let r = neither (p i) (any_from p (i + 1) n) e in
    each_next i n r.0 (from_none p (i + 1) n r.1)

pub any_intro : (p : ℕ → Bool) (i n j : ℕ) → i ≤ j → j < i + n → p j ≡ true → any_from p i n ≡ true
any_intro p i n j a z e = by (any_from p i n) refl
  where
    by : (t : Bool) → any_from p i n ≡ t → t ≡ true
    by true q = refl
    by false q = absurd (true≢false (sym e ∙ from_none p i n q j a z))

pub none_from : (p : ℕ → Bool) (i n : ℕ) → Each (λ j. p j ≡ false) i n → any_from p i n ≡ false
unfolding any_from
none_from p i zero h = refl
none_from p i (suc n) h = rw (each_first i n h) (none_from p (i + 1) n (each_rest i n h))

pub same_from : (p q : ℕ → Bool) (i n : ℕ) → Each (λ j. p j ≡ q j) i n → any_from p i n ≡ any_from q i n
unfolding any_from
same_from p q i zero h = refl
same_from p q i (suc n) h = cc (each_first i n h, same_from p q (i + 1) n (each_rest i n h))

-- ---- refusals

-- a refusal with a number is a refusal
pub is_refusal : {f : Fault} (n : ℕ) → f ≡ refusal (suc n) 0 → f.number ≡ 0 → ⊥
is_refusal n e z = let q : suc n ≡ 0 = ap (λ (x : Fault). x.number) (sym e) ∙ z in omega arith

pub not_refused : (t : Bool) (n p : ℕ) (rest : Fault) → (refuse_if t (refusal (suc n) p) rest).number ≡ 0
    → (t ≡ false) × (rest.number ≡ 0)
unfolding refuse_if
not_refused true n p rest e = absurd (let z : suc n ≡ 0 = e in omega arith)
not_refused false n p rest e = (refl, e)

pub pass : (t : Bool) (f rest : Fault) → t ≡ false → rest.number ≡ 0 → (refuse_if t f rest).number ≡ 0
unfolding refuse_if
pass t f rest e z = rw e z

-- a test that excuses from what comes after
pub not_excused : (t : Bool) (rest : Fault) → (refuse_if t none rest).number ≡ 0 → t ≡ false → rest.number ≡ 0
unfolding refuse_if
not_excused t rest z e = rw e at z

pub excuse : (t : Bool) (rest : Fault) → (t ≡ false → rest.number ≡ 0) → (refuse_if t none rest).number ≡ 0
unfolding refuse_if
excuse true rest h = refl
excuse false rest h = h refl

pub both_clear : (f rest : Fault) → (first_of f rest).number ≡ 0 → (f.number ≡ 0) × (rest.number ≡ 0)
unfolding first_of refuse_if
both_clear f rest = by (eqb f.number 0) refl
  where
    by : (t : Bool) → eqb f.number 0 ≡ t → (refuse_if (not t) f rest).number ≡ 0 → (f.number ≡ 0) × (rest.number ≡ 0)
    by true q e = (eqb-true f.number 0 q, e)
    by false q e = absurd (eqb-false f.number 0 q e)

pub clear_both : (f rest : Fault) → f.number ≡ 0 → rest.number ≡ 0 → (first_of f rest).number ≡ 0
unfolding first_of refuse_if
clear_both f rest e z = rw (eq-eqb f.number 0 e) z

-- ---- what refuses before the end of a chain refuses whatever its end is

abbrev pub Alike : Fault → Fault → Type 0
Alike x y = (x.number ≡ 0 → ⊥) → x ≡ y

pub alike_end : (y : Fault) → Alike none y
alike_end y = λ n. absurd (n refl)

pub alike_refuse : (t : Bool) (f x y : Fault) → Alike x y → Alike (refuse_if t f x) (refuse_if t f y)
unfolding refuse_if
alike_refuse true f x y h = λ n. refl
alike_refuse false f x y h = h

pub alike_first : (f x y : Fault) → Alike x y → Alike (first_of f x) (first_of f y)
unfolding first_of
alike_first f x y h = alike_refuse (not (eqb f.number 0)) f x y h

-- ---- no index refuses

pub from_clear : (f : ℕ → Fault) (i n : ℕ) → (first_from f i n).number ≡ 0 → Each (λ j. (f j).number ≡ 0) i n
unfolding first_from
from_clear f i zero e = λ j a z. absurd (omega arith)
from_clear f i (suc n) e =
    let r = both_clear (f i) (first_from f (i + 1) n) e in
    each_next i n r.0 (from_clear f (i + 1) n r.1)

pub clear_from : (f : ℕ → Fault) (i n : ℕ) → Each (λ j. (f j).number ≡ 0) i n → (first_from f i n).number ≡ 0
unfolding first_from
clear_from f i zero h = refl
clear_from f i (suc n) h =
    clear_both (f i) (first_from f (i + 1) n) (each_first i n h) (clear_from f (i + 1) n (each_rest i n h))

pub first_same : (f g : ℕ → Fault) (i n : ℕ) → Each (λ j. f j ≡ g j) i n → first_from f i n ≡ first_from g i n
unfolding first_from
first_same f g i zero h = refl
first_same f g i (suc n) h = cc (each_first i n h, first_same f g (i + 1) n (each_rest i n h))

-- no index below n refuses exactly if each obeys
pub clear_below : (f : ℕ → Fault) (H : ℕ → Type 0) (n : ℕ) → ((j : ℕ) → ((f j).number ≡ 0) ↔ H j)
    → ((first_from f 0 n).number ≡ 0) ↔ ((j : ℕ) → j < n → H j)
clear_below f H n obeys = (
  λ e j h. (obeys j).0 (from_clear f 0 n e j (omega arith) (omega arith)),
  λ h. clear_from f 0 n (λ j a z. (obeys j).1 (h j (omega arith))),
)

-- ---- a finding of number 0 is none

abbrev pub Clear : Fault → Type 0
Clear f = f.number ≡ 0 → f ≡ none

pub clear_refuse : (t : Bool) (n p : ℕ) (rest : Fault) → Clear rest → Clear (refuse_if t (refusal (suc n) p) rest)
unfolding refuse_if
clear_refuse true n p rest h = λ e. absurd (let z : suc n ≡ 0 = e in omega arith)
clear_refuse false n p rest h = h

pub clear_first : (f rest : Fault) → Clear rest → Clear (first_of f rest)
unfolding first_of refuse_if
clear_first f rest h = by (eqb f.number 0) refl
  where
    by : (t : Bool) → eqb f.number 0 ≡ t → Clear (refuse_if (not t) f rest)
    by true q = h
    by false q = λ e. absurd (eqb-false f.number 0 q e)

pub clear_from_all : (f : ℕ → Fault) (i n : ℕ) → Clear (first_from f i n)
unfolding first_from
clear_from_all f i zero = λ e. refl
clear_from_all f i (suc n) = clear_first (f i) (first_from f (i + 1) n) (clear_from_all f (i + 1) n)

-- ---- what is found

-- what holds of each refusal of a chain or a search, and of none, holds of what is found
module _ (P : Fault → Type 0) where
  pub holds_if : (t : Bool) (f rest : Fault) → P f → P rest → P (refuse_if t f rest)
  unfolding refuse_if
  holds_if true f rest h k = h
  holds_if false f rest h k = k

  pub holds_first : (f rest : Fault) → P f → P rest → P (first_of f rest)
  unfolding first_of
  holds_first f rest h k = holds_if (not (passes f)) f rest h k

  pub holds_from : P none → (f : ℕ → Fault) (i n : ℕ) → Each (λ j. P (f j)) i n → P (first_from f i n)
  unfolding first_from
  holds_from z f i zero h = z
  holds_from z f i (suc n) h = holds_first (f i) (first_from f (i + 1) n) (each_first i n h) (holds_from z f (i + 1) n (each_rest i n h))
