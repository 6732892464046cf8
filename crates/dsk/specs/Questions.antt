-- What refuses a call on a track block or a sector, in its order: 30 to 35, then 13, then 14 (DK-11).
use Rattle.std.specs.Prelude.{ℕ, List, ◌||◌, leb}
use Rattle.refusals.specs.Refusals.{Fault, none, refusal, refuse_if, first_of}
use Rattle.dsk_fields.specs.Fields.{tracks, sides, block_of, sectors}
use Rattle.dsk_check.specs.Faults.{dsk_fault}

-- DK-11, R-13: a call on track t and side s: 30 to 35, then 13 where the image has no such track or no such side, then the rest.
unfoldable pub block_then : List ℕ → ℕ → ℕ → Fault → Fault
block_then b t s rest =
    first_of (dsk_fault b) (refuse_if (leb (tracks b) t || leb (sides b) s) (refusal 13 0) rest)

-- DK-11: the question for the block of track t and side s: 30 to 35, then 13.
abbrev pub block_question : List ℕ → ℕ → ℕ → Fault
block_question b t s = block_then b t s none

-- DK-11, R-14: the question for sector k of that block: 30 to 35, then 13, then 14 where k is not below its number of sectors.
abbrev pub sector_question : List ℕ → ℕ → ℕ → ℕ → Fault
sector_question b t s k = block_then b t s (refuse_if (leb (sectors b (block_of b t s)) k) (refusal 14 0) none)
