-- What is found has the answer's number and values.
use mathlib.Core.Path.{ap, ◌∙◌}
use Prim.Native.Nat.{ℕ}
use Rattle.std.specs.Prelude.{Result}
use Rattle.refusals.specs.Refusals.{Fault}
use Rattle.scp_lookup.specs.Lookups.{track_on}
use Rattle.scp.specs.Answers.{of_track}
use Rattle.scp.proofs.Answering.{track_answer_is}
use Rattle.scp.proofs.track.Goals as goal

pub returns : goal.returns
returns c =
    let a = c.args in
    ap of_track c.track_on.ensures
    ∙ ap (λ (e : Result ℕ Fault). of_track (track_on a.image.now a.track e)) c.find_track-entry.ensures
    ∙ track_answer_is _ _ _
