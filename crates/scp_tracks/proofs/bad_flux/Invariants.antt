-- Flux that ends past the data from the first of a pair of revolutions on is such flux of the whole track.
use mathlib.Core.Path.{◌≡◌}
use Prim.Native.Nat.{◌*◌, ◌-◌}
use Rattle.refusals.specs.Search.{any_from}
use Rattle.scp_fields.specs.Header.{revolutions}
use Rattle.scp_tracks.specs.Tracks.{flux_past}
use Rattle.scp_tracks.proofs.bad_flux.Given as goal

abbrev pub invariant-loop-pair : goal.invariant-loop-pair
invariant-loop-pair l =
    any_from (flux_past l.«end» l.image l.e) (2 * l.pair) (l.revolutions - 2 * l.pair) ≡ any_from (flux_past l.«end» l.image l.e) 0 (revolutions l.image)
