-- The track is found or refused as the definition says, and its speeds are the definition's.
use mathlib.Core.Path.{ap, ◌∙◌}
use Rattle.std.proofs.lemmas.Result.{err_from_is_err_and}
use Rattle.scp_speed.specs.Speeds.{speeds_of}
use Rattle.scp_lookup.proofs.Asking.{track_passes}
use Rattle.scp_lookup.proofs.FoundLaws.{found_at, not_found}
use Rattle.scp.specs.Answers.{of_speed_range, track_speed_answer}
use Rattle.scp.proofs.Answering.{unless_refused, unless_passes, speeds_told}
use Rattle.scp.proofs.track_speed.Goals as goal

pub returns-in_err-header : goal.returns-in_err-header
unfolding track_speed_answer
returns-in_err-header c =
    let none = not_found _ _ _ c.in_err-header.ensures in
    let p = err_from_is_err_and c.from_residual.result c.from_residual.ensures.1 in
    rw (p.1, p.2) (unless_refused _ _ none.refuses none.number)

pub returns : goal.returns
unfolding track_speed_answer
returns c =
    let there = found_at _ _ _ c.in_ok-header.ensures in
    unless_passes _ _ (track_passes _ _ _ there.present)
    (speeds_told _ ∙ ap of_speed_range (c.track_speeds.ensures ∙ ap (speeds_of c.args.image.now) there.same))
