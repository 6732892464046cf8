-- What refuses a DSK image: 30 to 35 in their order (DK-10, R-30 to R-35).
use Rattle.std.specs.Prelude.{ℕ, ◌+◌, ◌*◌, List, Bool, not, ◌&&◌, ◌||◌, eqb, ltb}
use Rattle.refusals.specs.Refusals.{Fault, none, refusal, refuse_if, first_of}
use Rattle.refusals.specs.Search.{any_from, first_from}
use Rattle.dsk_header.specs.HeaderFault.{head_fault}
use Rattle.dsk_fields.specs.Fields.{block_text, says_at, info_size, tracks, sides, track_size, block_index, block_of, track_number, side_number, size_code, sectors, entry_code, data_size}

-- ---- the block at file offset e, of track t and side s

-- R-33 Block: its name, or its track or side number, is wrong.
unfoldable pub bad_block : List ℕ → ℕ → ℕ → ℕ → Bool
bad_block b e t s = not (says_at b e block_text && (eqb (track_number b e) t && eqb (side_number b e) s))

-- R-34: sector k has a larger code than its block.
abbrev pub larger_code : List ℕ → ℕ → ℕ → Bool
larger_code b e k = ltb (size_code b e) (entry_code b e k)

-- R-34 Sectors: more than 29 sectors, a size code above 6, or a sector with a larger code than the block's.
unfoldable pub bad_sectors : List ℕ → ℕ → Bool
bad_sectors b e = ltb 29 (sectors b e) || (ltb 6 (size_code b e) || any_from (larger_code b e) 0 (sectors b e))

-- R-35 Data: the sector data do not fit in the block.
abbrev pub bad_data : List ℕ → ℕ → Bool
bad_data b e = ltb (track_size b) (info_size + sectors b e * data_size b e)

-- DK-10: of one block 33, 34, 35; its index i is the position.
unfoldable pub block_fault_at : List ℕ → ℕ → ℕ → ℕ → ℕ → Fault
block_fault_at b e t s i =
    refuse_if (bad_block b e t s) (refusal 33 i)
    (refuse_if (bad_sectors b e) (refusal 34 i)
    (refuse_if (bad_data b e) (refusal 35 i)
    none))

-- DK-3, DK-10: the block of track t and side s.
abbrev pub block_fault : List ℕ → ℕ → ℕ → Fault
block_fault b t s = block_fault_at b (block_of b t s) t s (block_index b t s)

-- DK-10: the blocks of track t, side by side.
abbrev pub track_fault : List ℕ → ℕ → Fault
track_fault b t = first_from (block_fault b t) 0 (sides b)

-- DK-10: all blocks in file order, track by track.
abbrev pub blocks_fault : List ℕ → Fault
blocks_fault b = first_from (track_fault b) 0 (tracks b)

-- ---- in order

-- DK-10: 30, 32, 31 and 32 of the image, then the blocks.
unfoldable pub dsk_fault : List ℕ → Fault
dsk_fault b = first_of (head_fault b) (blocks_fault b)
