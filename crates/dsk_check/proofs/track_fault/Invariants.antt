-- The block of this side starts here, and the first finding from it on is the track's.
use mathlib.Core.Path.{◌≡◌}
use Prim.Native.Nat.{◌-◌}
use Rattle.refusals.specs.Search.{first_from}
use Rattle.dsk_fields.specs.Fields.{block_of}
use Rattle.dsk_check.specs.Faults.{block_fault, track_fault}
use Rattle.dsk_check.proofs.track_fault.Given as goal

abbrev pub invariant-loop-side : goal.invariant-loop-side
invariant-loop-side l = record {
  here : l.at ≡ block_of l.image l.track l.side;
  first : first_from (block_fault l.image l.track) l.side (l.side-end - l.side) ≡ track_fault l.image l.track;
}
