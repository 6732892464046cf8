-- The revolution of the track that is found.
use mathlib.Core.Path.{ap, ◌∙◌}
use Rattle.scp_lookup.specs.Lookups.{revolution_on}
use Rattle.scp_lookup.proofs.FoundLaws.{found_on}
use Rattle.scp_lookup.proofs.find_revolution.Goals as goal

pub returns : goal.returns
returns c =
    let a = c.args in
    c.revolution_on.ensures ∙ ap (revolution_on a.image.now a.k) c.find_track-entry.ensures ∙ found_on _ _ _ _
