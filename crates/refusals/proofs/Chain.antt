-- A chain of tests, each of which returns, against nested refuse_if: `refuse_next` for each test that passed and `refuse_here` for the one
-- that refused; and two findings, one after the other, against first_of.
use mathlib.Core.Path.{◌≡◌, sym, ap, ◌∙◌}
use mathlib.Core.Bool.{Bool, true, false, not}
use borrow.Author.Tests.{eq-eqb, ne_eqb}
use Rattle.refusals.specs.Refusals.{Fault, refuse_if, first_of}

pub refuse_here : {r : Fault} (t : Bool) (f rest : Fault) → t ≡ true → r ≡ f → r ≡ refuse_if t f rest
unfolding refuse_if
refuse_here t f rest e q = q ∙ sym (simp e)

pub refuse_next : {r : Fault} (t : Bool) (f rest : Fault) → t ≡ false → r ≡ rest → r ≡ refuse_if t f rest
unfolding refuse_if
refuse_next t f rest e q = q ∙ sym (simp e)

-- v is the first finding, and refuses
pub first_here : {v : Fault} (f rest : Fault) → v ≡ f → (v.number ≡ 0 → ⊥) → v ≡ first_of f rest
unfolding first_of refuse_if
first_here {v} f rest e t = e ∙ sym (simp (ne_eqb f.number 0 (λ q. t (ap (λ (x : Fault). x.number) e ∙ q))))

-- v is the first finding, and passes
pub first_next : {v r : Fault} (f rest : Fault) → v ≡ f → v.number ≡ 0 → r ≡ rest → r ≡ first_of f rest
unfolding first_of refuse_if
first_next {v} {r} f rest e t q = q ∙ sym (simp (eq-eqb f.number 0 (ap (λ (x : Fault). x.number) (sym e) ∙ t)))

-- a test that is negated
pub turned_off : {x : Bool} → x ≡ true → not x ≡ false
turned_off e = ap not e

pub turned_on : {x : Bool} → x ≡ false → not x ≡ true
turned_on e = ap not e
