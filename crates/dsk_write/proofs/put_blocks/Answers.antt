-- The loop's invariant: storing the tracks from this one on makes what storing all of them makes.
use Prim.Native.Nat.{ℕ}
use mathlib.Core.Path.{sym, ap, ◌∙◌}
use native.Mathlib.Omega.{arith}
use lib.Seq.{sets}
use Rattle.dsk_fields.proofs.Strides.{track_after, first_part}
use Rattle.dsk_layout.specs.Layouts.{track_length}
use Rattle.dsk_write.specs.Images.{joined_from, block_offset, track_bytes}
use Rattle.dsk_write.proofs.Stores.{store_next, store_end}
use Rattle.dsk_write.proofs.Sizes.{track_length_lem}
use Rattle.dsk_write.proofs.put_blocks.Goals as goal

pub loop-track-preserved : goal.loop-track-preserved
loop-track-preserved c =
    let a = c.args in
    let l = c.loop-track in
    let size = track_length_lem a.layout a.content.now c.requires.few c.requires.all c.loop-track-test.true in
    let next = track_after a.layout.sides (track_length a.layout) l.track in
    store_next (track_bytes a.layout a.content.now) (λ (t : ℕ). block_offset a.layout t 0) a.layout.tracks a.image.now l.invariant c.loop-track-test.true (omega arith) c.put_track.ensures

pub returns : goal.returns
returns c =
    let a = c.args in
    store_end (track_bytes a.layout a.content.now) (λ (t : ℕ). block_offset a.layout t 0) a.layout.tracks a.image.now c.loop-track.invariant c.loop-track-test.false
    ∙ ap (λ (i : ℕ). sets a.image.now i (joined_from (track_bytes a.layout a.content.now) 0 a.layout.tracks)) (sym (first_part a.layout.sides (track_length a.layout)))
