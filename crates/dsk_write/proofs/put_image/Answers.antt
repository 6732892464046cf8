-- What is too long for the places is refused; else the header and then the blocks are stored.
use Prim.Native.Nat.{ℕ, ◌<◌, ◌≤◌}
use mathlib.Core.Path.{refl, ap, ◌∙◌}
use mathlib.Core.List.{List}
use native.Mathlib.Omega.{arith}
use lib.ListN.{length}
use lib.Seq.{length-sets}
use Rattle.refusals.specs.Refusals.{in_table}
use Rattle.dsk_layout.specs.Layouts.{image_length}
use Rattle.dsk_layout.proofs.LayoutLaws.{writable}
use Rattle.dsk_write.specs.Images.{header_bytes}
use Rattle.dsk_write.proofs.Outcome.{gives_15, gives_length, image_put}
use Rattle.dsk_write.proofs.put_image.Goals as goal

pub returns-then-image-size : goal.returns-then-image-size
returns-then-image-size c =
    let a = c.args in
    let short : length a.image.now < image_length a.layout = omega (arith, c.image_size-size.ensures, c.if-image-size.true) in
    record {
      value = gives_15 a.creator.now a.layout a.content.now (length a.image.now) c.requires (ap in_table c.at.ensures) short;
      image_after = refl;
    }

pub put_header-requires : goal.put_header-requires
put_header-requires c =
    let a = c.args in
    let w = writable a.layout (length a.creator.now) (length a.content.now) c.requires in
    (w.creator, omega (arith, c.image_size-size.ensures, c.if-image-size.false))

pub put_blocks-requires : goal.put_blocks-requires
put_blocks-requires c =
    let a = c.args in
    let w = writable a.layout (length a.creator.now) (length a.content.now) c.requires in
    let same = ap (λ (x : List ℕ). length x) c.put_header.ensures ∙ length-sets a.image.now 0 (header_bytes a.creator.now a.layout) in
    record { few = w.sectors_most; all = w.content; room = omega (arith, c.image_size-size.ensures, c.if-image-size.false) }

pub returns : goal.returns
returns c =
    let a = c.args in
    let size = c.image_size-size.ensures in
    let room : image_length a.layout ≤ length a.image.now = omega (arith, size, c.if-image-size.false) in record {
      value = gives_length a.creator.now a.layout a.content.now (length a.image.now) c.requires size room;
      image_after = image_put a.creator.now a.layout a.content.now a.image.now c.requires room c.put_header.ensures c.put_blocks.ensures;
    }
