-- Each return meets the tests before it, in the definition's order.
use mathlib.Core.Path.{◌∙◌}
use Rattle.scp_tracks.proofs.RevolutionLaws.{track_low, track_past, track_in}
use borrow.Author.Rules.{rules}
use Rattle.scp_tracks.proofs.bad_track.Goals as goal

pub returns-then-e-table_end : goal.returns-then-e-table_end
returns-then-e-table_end c = track_low _ _ _ _ (search rules)

pub returns-then-end-e : goal.returns-then-end-e
returns-then-end-e c = track_past _ _ _ _ (search rules)

pub returns : goal.returns
returns c = c.bad_mark.ensures ∙ track_in _ _ _ _ (search rules) (search rules)
