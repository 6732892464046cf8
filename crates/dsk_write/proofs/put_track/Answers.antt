-- The loop's invariant: storing the blocks from this side on makes what storing all of them makes.
use native.Mathlib.Omega.{arith}
use Rattle.dsk_fields.proofs.Strides.{side_after}
use Rattle.dsk_layout.specs.Layouts.{track_length}
use Rattle.dsk_write.specs.Images.{block_offset, block_bytes}
use Rattle.dsk_write.proofs.Stores.{store_next, store_end}
use Rattle.dsk_write.proofs.Sizes.{block_length}
use Rattle.dsk_write.proofs.put_track.Goals as goal

pub loop-side-preserved : goal.loop-side-preserved
loop-side-preserved c =
    let a = c.args in
    let l = c.loop-side in
    let size = block_length a.layout a.content.now c.requires.roomy.few c.requires.roomy.all c.requires.track_lt_tracks c.loop-side-test.true in
    let next = side_after a.layout.sides (track_length a.layout) a.track l.side in
    store_next (block_bytes a.layout a.content.now a.track) (block_offset a.layout a.track) a.layout.sides a.image.now l.invariant c.loop-side-test.true (omega arith)
    c.put_block.ensures

pub returns : goal.returns
returns c =
    let a = c.args in
    store_end (block_bytes a.layout a.content.now a.track) (block_offset a.layout a.track) a.layout.sides a.image.now c.loop-side.invariant c.loop-side-test.false
