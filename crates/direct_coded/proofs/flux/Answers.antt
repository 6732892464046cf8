-- The revolution is found, and its flux is put, or where it stands; or it is refused.
use mathlib.Core.Path.{ap, ◌∙◌}
use Rattle.scp_fields.specs.Editions.{edition_of}
use Rattle.scp.specs.Answers.{bytes}
use Rattle.scp_direct.proofs.DirectLaws.{direct_flux_found, direct_flux_refused}
use Rattle.scp_boundary.specs.Boundary.{numbers_of}
use Rattle.boundary.proofs.CodeAndBuffer.{pass_values, pass_refusal}
use Rattle.direct_coded.proofs.flux.Goals as goal

pub returns-in-Ok : goal.returns-in-Ok
returns-in-Ok c =
    let a = c.args in
    let named = c.from-named.ensures ∙ ap edition_of c.from.ensures in
    let d = c.in-Ok.d in
    let told = ap (bytes d.offset.0) c.flux_of.ensures.result_value ∙ direct_flux_found (edition_of a.edition) a.image.now a.track a.revolution d (rw named at c.in-Ok.ensures) in
    let all = pass_values a.out.now (ap numbers_of told) (c.give.ensures.value, c.give.ensures.out_after) in
    record { value = all.0; out_after = all.1 }

pub returns-in-Err : goal.returns-in-Err
returns-in-Err c =
    let a = c.args in
    let named = c.from-named.ensures ∙ ap edition_of c.from.ensures in
    let told = direct_flux_refused (edition_of a.edition) a.image.now a.track a.revolution _ (rw named at c.in-Err.ensures) in
    let all = pass_refusal a.out.now (ap numbers_of told) c.code.ensures in
    record { value = all.0; out_after = all.1 }
