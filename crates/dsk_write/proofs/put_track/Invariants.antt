-- The loop's invariant: storing the blocks from this side on makes what storing all of them makes.
use Rattle.dsk_write.specs.Images.{block_offset, block_bytes}
use Rattle.dsk_write.proofs.Stores.{Storing}
use Rattle.dsk_write.proofs.put_track.Given as goal

abbrev pub invariant-loop-side : goal.invariant-loop-side
invariant-loop-side l = Storing (block_bytes l.layout l.content l.track) (block_offset l.layout l.track) l.layout.sides l.initial.image l.image l.side
