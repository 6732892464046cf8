-- On a track that is found the revolution is present or absent.
use mathlib.Core.Path.{sym, ap, ◌∙◌}
use Prim.Native.Nat.{ℕ}
use Rattle.std.specs.Prelude.{Result}
use Rattle.refusals.specs.declared.Refusal.{Refusal}
use Rattle.refusals.specs.Refusals.{in_table, found}
use Rattle.scp_lookup.specs.Lookups.{revolution_on}
use Rattle.scp_lookup.proofs.FoundLaws.{presence_on}
use Rattle.scp_lookup.proofs.revolution_on.Goals as goal

pub returns : goal.returns
returns c =
    let a = c.args in
    let read = c.revolution_at.ensures in
    ap found c.ok_or.ensures.value
    ∙ presence_on a.image.now c.in_ok-header.header a.k c.revolution_at.result c.at.result read.0 read.1 (ap in_table c.at.ensures)
    ∙ ap (λ (e : Result ℕ Refusal). revolution_on a.image.now a.k (found e)) (sym c.in_ok-header.was)
