-- The speeds that are answered are numbers.
use mathlib.Core.Path.{sym, ap, subst, ◌∙◌}
use Rattle.scp.proofs.Answering.{speeds_told}
use Rattle.scp_rows.specs.Rows.{row_of, Real}
use Rattle.scp_rows.proofs.NoNan.{track_speed_real}
use Rattle.scp_rows.proofs.track_speed_row.Goals as goal

pub speeds_row-requires : goal.speeds_row-requires
speeds_row-requires c = subst Real (sym (sym (speeds_told _) ∙ c.in-Ok.ensures)) (track_speed_real _ _ _)

pub returns-in-Ok : goal.returns-in-Ok
returns-in-Ok c = c.speeds_row.ensures ∙ ap row_of (sym (speeds_told _) ∙ c.in-Ok.ensures)
