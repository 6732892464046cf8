-- The loop's invariant: storing the tracks from this one on makes what storing all of them makes.
use Prim.Native.Nat.{ℕ}
use Rattle.dsk_write.specs.Images.{block_offset, track_bytes}
use Rattle.dsk_write.proofs.Stores.{Storing}
use Rattle.dsk_write.proofs.put_blocks.Given as goal

abbrev pub invariant-loop-track : goal.invariant-loop-track
invariant-loop-track l = Storing (track_bytes l.layout l.content) (λ (t : ℕ). block_offset l.layout t 0) l.layout.tracks l.initial.image l.image l.track
