-- The numbers of the editions are computed. By 1.4 no image has a footer, so what would refuse one is never met.
use Prim.Native.Nat.{ℕ}
use mathlib.Core.Path.{◌≡◌, refl}
use mathlib.Core.List.{List}
use mathlib.Core.Bool.{false, ◌||◌}
use native.Mathlib.Omega.{arith}
use lib.Dec.{eqb}
use borrow.Author.Tests.{eqb-false}
use Rattle.refusals.specs.Refusals.{none, refuse_if}
use Rattle.refusals.proofs.Finding.{neither, holds_if, holds_first}
use Rattle.scp_fields.specs.declared.Edition.TheVariants.{V1_4}
use Rattle.scp_fields.specs.Editions.{slots, footers}
use Rattle.scp_fields.specs.Header.{footer_bit}
use Rattle.scp_footer.specs.Footer.{footer_fault}
use Rattle.scp_open.specs.Opening.{open_fault}
use Rattle.scp.specs.Validating.{validate_fault}
use Rattle.scp.specs.Answers.{footer_answer}
use Rattle.scp_theorems.specs.Theorems.{EditionNumbers, NotFooter, NeverFooter}
use Rattle.scp_theorems.proofs.Numbers.{Numbered, open_number, track_asked, asked_number}

pub edition_numbers : EditionNumbers
unfolding slots
edition_numbers = record { old = (refl, refl, refl); new = (refl, refl, refl) }

-- any other number
pub other : (m : ℕ) → eqb m 7 || (eqb m 8 || eqb m 19) ≡ false → NotFooter m
other m h =
    let first = neither (eqb m 7) _ h in
    let second = neither (eqb m 8) _ first.1 in
    (eqb-false m 7 first.0, eqb-false m 8 second.0, eqb-false m 19 second.1)

module _ (b : List ℕ) where
  bit : footer_bit V1_4 b ≡ 0
  unfolding footer_bit footers
  bit = refl

  no_footer_fault : footer_fault V1_4 b ≡ none
  unfolding footer_fault refuse_if
  no_footer_fault = simp bit

  opening : NotFooter (open_fault V1_4 b).number
  opening =
      let foot : NotFooter (footer_fault V1_4 b).number = rw no_footer_fault (other 0 refl) in
      open_number NotFooter V1_4 b (other 0 refl) (other 1 refl) (other 2 refl) (other 3 refl) (other 4 refl)
      (other 5 refl) (other 6 refl) foot (other 9 refl) (other 10 refl) (other 11 refl)

  validating : NotFooter (validate_fault V1_4 b).number
  unfolding validate_fault
  validating =
      holds_first (Numbered NotFooter) (open_fault V1_4 b) _ opening
      (holds_if (Numbered NotFooter) _ _ _ (other 12 refl) (other 0 refl))

pub never_footer : NeverFooter
unfolding footer_answer
never_footer b =
    record {
      flag = simp (bit b);
      end = simp (bit b) (omega arith);
      opening = opening b;
      validating = validating b;
      track = track_asked NotFooter V1_4 b (opening b) (other 13 refl);
      revolution = asked_number NotFooter V1_4 b (opening b) (other 13 refl) (other 14 refl);
      answer = λ e. simp (e, bit b);
    }
