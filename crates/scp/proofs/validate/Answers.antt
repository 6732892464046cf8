-- Each return meets the tests before it: opening, then the sum.
use mathlib.Core.Path.{◌≡◌, refl, sym, ap, ◌∙◌}
use native.Mathlib.Omega.{arith}
use Rattle.std.proofs.lemmas.Result.{err_from_is_err_and}
use Rattle.refusals.specs.Refusals.{Fault, refusal, in_table}
use Rattle.refusals.proofs.Finding.{is_refusal}
use Rattle.refusals.proofs.Passing.{refuses}
use Rattle.scp_fields.specs.Header.{stored_sum}
use Rattle.scp_open.proofs.OpenLaws.{whole_fault}
use Rattle.scp_lookup.proofs.Asking.{open_least}
use Rattle.scp.specs.Validating.{wanted_sum}
use Rattle.scp.proofs.Answering.{unless_refused, unless_passes, validate_open, validate_sum, validate_passes}
use Rattle.scp.proofs.validate.Goals as goal

pub returns-in_err-first_fault : goal.returns-in_err-first_fault
returns-in_err-first_fault c =
    let a = c.args in
    let fault = whole_fault a.edition a.image.now c.slots.ensures.0 c.in_err-first_fault.ensures in
    let number = refuses c.in_err-first_fault.field-0.0 refl in
    let p = err_from_is_err_and c.from_residual.result c.from_residual.ensures.1 in
    rw (p.1, p.2) (unless_refused _ _ (validate_open _ _ fault number) number)

pub wanted_sum-wanted-requires : goal.wanted_sum-wanted-requires
wanted_sum-wanted-requires c =
    let a = c.args in
    let opens = ap (λ (f : Fault). f.number) (sym (whole_fault a.edition a.image.now c.slots.ensures.0 c.in_ok-first_fault.ensures)) in
    let least = open_least _ _ opens in
    omega arith

pub returns-then-stored-wanted : goal.returns-then-stored-wanted
returns-then-stored-wanted c =
    let a = c.args in
    let b = a.image.now in
    let opens = ap (λ (f : Fault). f.number) (sym (whole_fault a.edition b c.slots.ensures.0 c.in_ok-first_fault.ensures)) in
    let differs : stored_sum b ≡ wanted_sum b → ⊥ = λ e. c.if-stored-wanted.true (c.checksum-stored.ensures ∙ e ∙ sym c.wanted_sum-wanted.ensures) in
    let sum : in_table c.at.result ≡ refusal 12 0 = ap in_table c.at.ensures in
    unless_refused _ _ (sum ∙ validate_sum _ _ opens differs) (is_refusal 11 sum)

pub returns : goal.returns
returns c =
    let a = c.args in
    let opens = ap (λ (f : Fault). f.number) (sym (whole_fault a.edition a.image.now c.slots.ensures.0 c.in_ok-first_fault.ensures)) in
    let same = sym c.checksum-stored.ensures ∙ c.if-stored-wanted.false ∙ c.wanted_sum-wanted.ensures in
    unless_passes _ _ (validate_passes _ _ opens same) refl
