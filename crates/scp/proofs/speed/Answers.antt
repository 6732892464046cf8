-- The speed of what is found is that of its duration.
use mathlib.Core.Path.{ap, ◌∙◌}
use Prim.Native.Nat.{ℕ}
use Rattle.std.proofs.lemmas.Result.{err_from_is_err_and}
use Rattle.scp_tracks.specs.declared.RevolutionData.{RevolutionData}
use Rattle.scp_speed.specs.Speeds.{speed_of}
use Rattle.scp_lookup.proofs.FoundLaws.{found_data, found_refused, revolution_passes}
use Rattle.scp.specs.Answers.{of_speed_only, speed_answer}
use Rattle.scp.proofs.Answering.{unless_refused, unless_passes, speed_is}
use Rattle.scp.proofs.speed.Goals as goal

pub returns-in_err-record : goal.returns-in_err-record
unfolding speed_answer
returns-in_err-record c =
    let none = found_refused _ _ _ _ c.in_err-record.ensures in
    let p = err_from_is_err_and c.from_residual.result c.from_residual.ensures.1 in
    rw (p.1, p.2) (unless_refused _ _ none.refuses none.number)

pub returns : goal.returns
unfolding speed_answer
returns c =
    let held = found_data _ _ _ _ c.in_ok-record.ensures in
    let duration = ap (λ (d : RevolutionData). d.duration) held.same in
    unless_passes _ _ (revolution_passes _ _ _ _ held.present)
    (ap of_speed_only c.speed_of.ensures ∙ ap (λ (d : ℕ). of_speed_only (speed_of d)) duration ∙ speed_is _)
