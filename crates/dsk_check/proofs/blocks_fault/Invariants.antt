-- This track's first block starts here, and the first finding from this track on is that of all.
use mathlib.Core.Path.{◌≡◌}
use Prim.Native.Nat.{◌-◌}
use Rattle.refusals.specs.Search.{first_from}
use Rattle.dsk_fields.specs.Fields.{block_of}
use Rattle.dsk_check.specs.Faults.{track_fault, blocks_fault}
use Rattle.dsk_check.proofs.blocks_fault.Given as goal

abbrev pub invariant-loop-track : goal.invariant-loop-track
invariant-loop-track l = record {
  here : l.at ≡ block_of l.image l.track 0;
  first : first_from (track_fault l.image) l.track (l.track-end - l.track) ≡ blocks_fault l.image;
}
