-- In the end the table has the edition's entries, and zeros behind them.
use mathlib.Core.Path.{◌≡◌}
use native.Mathlib.Omega.{arith}
use borrow.Author.Rules.{rules}
use Rattle.scp_fields.specs.Editions.{slots}
use Rattle.scp_fields.specs.Header.{track_slots}
use Rattle.scp_fields.proofs.EditionLaws.{held_in, held_behind}
use Rattle.scp_open.proofs.Table.{fill_none, fill_next, fill_end}
use Rattle.scp_open.proofs.read_table.Goals as goal

pub loop-t-init : goal.loop-t-init
loop-t-init c = (search rules, fill_none track_slots)

pub loop-t-preserved : goal.loop-t-preserved
loop-t-preserved c = (search rules, fill_next c.loop-t.invariant.1 (search rules) c.track_entry.ensures)

pub returns : goal.returns
returns c =
    let a = c.args in
    let whole : c.loop-t.t ≡ slots a.edition = search rules in
    fill_end c.loop-t.invariant.1 c.loop-t.invariant.0
    (λ k h. held_in a.edition a.image.now k (omega (arith, whole)))
    (λ k h. held_behind a.edition a.image.now k (omega (arith, whole)))
