-- An answer, unless it is refused.
use mathlib.Core.Path.{◌≡◌, sym, ap, ◌∙◌}
use borrow.Author.Tests.{eq-eqb, ne_eqb}
use Rattle.refusals.specs.Refusals.{Fault, unless}

module _ {A : Type 0} (q : Fault) (found : A) (refused : Fault → A) where
  pub unless_refused : {f : Fault} → f ≡ q → (f.number ≡ 0 → ⊥) → refused f ≡ unless q found refused
  unless_refused {f} e n =
      ap refused e ∙ sym (simp (ne_eqb q.number 0 (λ z. n (ap (λ (x : Fault). x.number) e ∙ z))))

  pub unless_found : {x : A} → q.number ≡ 0 → x ≡ found → x ≡ unless q found refused
  unless_found z e = e ∙ sym (simp (eq-eqb q.number 0 z))
