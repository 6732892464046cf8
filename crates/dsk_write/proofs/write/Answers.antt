-- The layout that is not refused is the one asked for.
use mathlib.Core.Path.{ap, ◌∙◌}
use lib.ListN.{length}
use Rattle.refusals.specs.Refusals.{found}
use Rattle.dsk_layout.specs.declared.Layout.{Layout}
use Rattle.dsk_layout.specs.Layouts.{asked_for, bad_layout}
use Rattle.dsk_layout.proofs.LayoutLaws.{accepted_is}
use Rattle.dsk_write.specs.Images.{image_bytes}
use Rattle.dsk_write.specs.Writing.{write_answer, buffer_after}
use Rattle.dsk_write.proofs.write.Goals as goal

pub put_image-requires : goal.put_image-requires
put_image-requires c =
    let a = c.args in
    let sound = accepted_is (asked_for a.numbers) (length a.creator.now) (length a.content.now) c.in_ok-layout.ensures in
    ap (λ (l : Layout). bad_layout l (length a.creator.now) (length a.content.now)) sound.0 ∙ sound.1

pub returns-clause-value : goal.returns-clause-value
returns-clause-value c =
    let a = c.args in
    let sound = accepted_is (asked_for a.numbers) (length a.creator.now) (length a.content.now) c.in_ok-layout.ensures in
    c.put_image.ensures.value ∙ ap (λ (l : Layout). write_answer a.creator.now l a.content.now (length a.image.now)) sound.0

pub returns-clause-image_after : goal.returns-clause-image_after
returns-clause-image_after c =
    let a = c.args in
    let sound = accepted_is (asked_for a.numbers) (length a.creator.now) (length a.content.now) c.in_ok-layout.ensures in
    c.put_image.ensures.image_after ∙ ap (λ (l : Layout). buffer_after a.image.now (image_bytes a.creator.now l a.content.now) (found c.put_image.result)) sound.0
