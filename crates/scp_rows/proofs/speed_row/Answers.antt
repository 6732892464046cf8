-- The row is that of the answer which the call gives, in each of its cases.
use mathlib.Core.Path.{sym, subst}
use Rattle.scp_rows.specs.Rows.{Real}
use Rattle.scp_rows.proofs.NoNan.{speed_real}
use Rattle.scp_rows.proofs.speed_row.Goals as goal

pub rpm_row-requires : goal.rpm_row-requires
rpm_row-requires c =
    subst Real (sym c.in-Ok.ensures) (speed_real _ _ _ _)
