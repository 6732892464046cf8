-- What writing a DSK image answers, and what it leaves in the lent buffer (DK-26, DK-27).
use Rattle.std.specs.Prelude.{ℕ, List, ◌++◌, length, drop, ltb, Result, Ok, Err}
use Rattle.refusals.specs.Refusals.{Fault, none, refusal, refuse_if, unless}
use Rattle.dsk_layout.specs.declared.Layout.{Layout}
use Rattle.dsk_layout.specs.Layouts.{bad_layout}
use Rattle.dsk_write.specs.Images.{image_bytes}

-- DK-26: what refuses to write the creator c, the layout l and the data d into so many places: 41, then 15.
unfoldable pub write_fault : List ℕ → Layout → List ℕ → ℕ → Fault
write_fault c l d places =
    refuse_if (bad_layout l (length c) (length d)) (refusal 41 0)
    (refuse_if (ltb places (length (image_bytes c l d))) (refusal 15 0)
    none)

-- DK-26: the length of the image, or what refuses it.
unfoldable pub write_answer : List ℕ → Layout → List ℕ → ℕ → Result ℕ Fault
write_answer c l d places =
    unless (write_fault c l d places) (Ok (length (image_bytes c l d))) Err

-- DK-27: the buffer at exit: the image at its start and its old contents beyond; as it was where writing is refused.
abbrev pub buffer_after : List ℕ → List ℕ → Result ℕ Fault → List ℕ
buffer_after old image (Ok n) = image ++ drop (length image) old
buffer_after old image (Err r) = old
