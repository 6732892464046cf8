-- The numbers handed out are those of the record and of its flux; what is refused stays so.
use mathlib.Core.Path.{sym, ap, ◌∙◌}
use Rattle.std.specs.Prelude.{Result}
use Rattle.std.proofs.lemmas.Result.{err_from_is_err_and}
use Rattle.refusals.specs.declared.Refusal.{Refusal}
use Rattle.refusals.specs.Refusals.{found}
use Rattle.flux_summary.specs.Summaries.{summarizing}
use Rattle.scp_tracks.specs.declared.RevolutionData.{RevolutionData}
use Rattle.scp_revolution.specs.Described.{described_on}
use Rattle.scp_revolution.proofs.Describing.{given, not_given}
use Rattle.scp_revolution.proofs.describe.Goals as goal

pub returns-in_err-m : goal.returns-in_err-m
returns-in_err-m c =
    let b = c.args.image.now in
    let p = err_from_is_err_and c.from_residual-in_err-m.result c.from_residual-in_err-m.ensures.1 in
    rw (p.1, p.2)
    (not_given b c.in_ok-d.d _ (c.in_err-m.ensures ∙ ap summarizing c.flux_of.ensures.result_value)
    ∙ ap (λ (r : Result RevolutionData Refusal). described_on b (found r)) (sym c.in_ok-d.was))

pub returns : goal.returns
returns c =
    let b = c.args.image.now in
    given b c.in_ok-d.d c.in_ok-m.m (c.in_ok-m.ensures ∙ ap summarizing c.flux_of.ensures.result_value)
    ∙ ap (λ (r : Result RevolutionData Refusal). described_on b (found r)) (sym c.in_ok-d.was)
