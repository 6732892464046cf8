-- The table has the entries of the tracks before t, and zeros behind them.
use mathlib.Core.Path.{◌≡◌}
use lib.ListN.{length}
use Rattle.scp_fields.specs.Header.{track_slots, track_entry}
use Rattle.scp_open.proofs.Table.{Filled}
use Rattle.scp_open.proofs.read_table.Given as goal

abbrev pub invariant-loop-t : goal.invariant-loop-t
invariant-loop-t l = (length l.table ≡ track_slots) × Filled (track_entry l.image) l.table l.t
