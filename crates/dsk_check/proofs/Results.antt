-- What a test found is passed on by `?`: the answer of a call, and of a loop over indices; and a chain over the indices.
use Prim.Native.Nat.{ℕ, zero, suc, ◌+◌, ◌-◌, ◌<◌, ◌≤◌}
use mathlib.Core.Path.{◌≡◌, refl, sym, ap, ◌∙◌}
use mathlib.Core.Bool.{Bool, true, false, ◌||◌, cond}
use native.Mathlib.Omega.{arith}
use borrow.Author.Tests.{eqb-true, eqb-false}
use Rattle.std.specs.Prelude.{Result, Ok, Err}
use Rattle.std.specs.List.{list_any, range_with_len}
use Rattle.refusals.specs.declared.Reason.{Reason}
use Rattle.refusals.specs.declared.Refusal.{Refusal}
use Rattle.refusals.specs.Refusals.{Fault, none, passes, unless, number_of, in_table, fault_of, found}
use Rattle.refusals.specs.Search.{any_from, first_from}
use Rattle.refusals.proofs.Answers.{unless_refused, unless_found}
use Rattle.refusals.proofs.Loops.{found_here, found_next, found_none}

-- some index passes, as a chain over the indices says it
pub any_is : (p : ℕ → Bool) (i n : ℕ) → list_any p (range_with_len i n) ≡ any_from p i n
unfolding any_from
any_is p i zero = refl
any_is p i (suc n) = ap (λ (t : Bool). p i || t) (any_is p (i + 1) n)

-- a reason of the table has a number
has_number : (r : Reason) → number_of r ≡ 0 → ⊥
has_number r e = grind arith

pub refuses : (r : Refusal) {f : Fault} → in_table r ≡ f → f.number ≡ 0 → ⊥
refuses r e z = has_number r.reason (ap (λ (x : Fault). x.number) e ∙ z)

-- what a test found, as the answer of a call that goes on where it found nothing
pub passed_on : {A : Type 0} (q : Fault) (x : Result A Fault) (r : Refusal) → in_table r ≡ q → Err (in_table r) ≡ unless q x Err
passed_on q x r e = unless_refused q x Err e (refuses r refl)

pub gone_on : {A : Type 0} (q : Fault) (x : Result A Fault) → none ≡ q → x ≡ unless q x Err
gone_on q x e = unless_found q x Err (ap (λ (f : Fault). f.number) (sym e)) refl

-- an answer with a value is the one that was to be found, and one with a refusal is what refused
pub was_found : {A : Type 0} (q : Fault) (x : A) {y : A} → Ok y ≡ unless q (Ok x) Err → (y ≡ x) × (q.number ≡ 0)
was_found {A} q x {y} h = by (passes q) refl h
  where
    by : (t : Bool) → passes q ≡ t → Ok y ≡ cond {A = Result A Fault} t (Ok x) (Err q) → (y ≡ x) × (q.number ≡ 0)
    by true e g = (cc, eqb-true q.number 0 e)
    by false e g = cc

pub was_refused : {A : Type 0} (q : Fault) (x : A) {f : Fault} → Err f ≡ unless q (Ok x) Err → (f ≡ q) × (q.number ≡ 0 → ⊥)
was_refused {A} q x {f} h = by (passes q) refl h
  where
    by : (t : Bool) → passes q ≡ t → Err f ≡ cond {A = Result A Fault} t (Ok x) (Err q) → (f ≡ q) × (q.number ≡ 0 → ⊥)
    by true e g = cc
    by false e g = (cc, eqb-false q.number 0 e)

-- the answer of a call that gives no value is what its test found
pub as_found : (r : Result Unit Refusal) {q : Fault} → fault_of r ≡ q → found r ≡ unless q (Ok tt) Err
as_found (Ok u) {q} e = gone_on q (Ok tt) e
as_found (Err r) {q} e = passed_on q (Ok tt) r e

module _ (f : ℕ → Fault) {i n : ℕ} {q : Fault} (inv : first_from f i (n - i) ≡ q) where
  pub err_here : (r : Refusal) → i < n → in_table r ≡ f i → in_table r ≡ q
  err_here r h e = found_here f inv h e (refuses r refl)

  pub ok_next : i < n → none ≡ f i → first_from f (i + 1) (n - (i + 1)) ≡ q
  ok_next h e = found_next f inv {v = none} h e refl

  pub ok_end : n ≤ i → none ≡ q
  ok_end = found_none f inv
