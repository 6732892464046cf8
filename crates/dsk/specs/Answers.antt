-- What each call on a DSK image answers (DK-12 to DK-15): what is found, or what refuses it.
use Rattle.std.specs.Prelude.{ℕ, List, [], take, drop, Result, Ok, Err}
use Rattle.refusals.specs.Refusals.{Fault, unless}
use Rattle.dsk_fields.specs.Fields.{tracks, sides, track_size, block_of, size_code, sectors, gap_length, filler_byte, entry_track, entry_side, entry_id, entry_code, entry_status1, entry_status2, data_size, data_at}
use Rattle.dsk_check.specs.Faults.{dsk_fault}
use Rattle.dsk.specs.Questions.{block_question, sector_question}
use Rattle.dsk.specs.declared.DiskGeometry.{DiskGeometry}
use Rattle.dsk.specs.declared.TrackBlock.{TrackBlock}
use Rattle.dsk.specs.declared.SectorInfo.{SectorInfo}

-- ---- the image

-- DK-10: valid, or the first of 30 to 35 by their order.
unfoldable pub validate_answer : List ℕ → Result Unit Fault
validate_answer b = unless (dsk_fault b) (Ok tt) Err

-- DK-12: the geometry: tracks, sides, and the size of a track block.
abbrev pub geometry_of : List ℕ → DiskGeometry
geometry_of b = record { tracks = tracks b; sides = sides b; size = track_size b }

-- DK-12: the geometry, or the first of 30 to 35 by their order.
unfoldable pub geometry_answer : List ℕ → Result DiskGeometry Fault
geometry_answer b = unless (dsk_fault b) (Ok (geometry_of b)) Err

-- ---- a track block

-- DK-3, DK-11: the file offset of the block of track t and side s, or what refuses it: what the calls on a block and on a sector start from.
unfoldable pub found_block : List ℕ → ℕ → ℕ → Result ℕ Fault
found_block b t s = unless (block_question b t s) (Ok (block_of b t s)) Err

-- DK-13: the block at file offset e: its number of sectors, size code N, gap and filler.
abbrev pub track_block : List ℕ → ℕ → TrackBlock
track_block b e = record { sectors = sectors b e; code = size_code b e; gap = gap_length b e; filler = filler_byte b e }

-- DK-13: the block of track t and side s, or 30 to 35, then 13.
unfoldable pub block_answer : List ℕ → ℕ → ℕ → Result TrackBlock Fault
block_answer b t s = unless (block_question b t s) (Ok (track_block b (block_of b t s))) Err

-- ---- a sector

-- DK-5, DK-14: sector k of the block at e: its identity C, H, R, N, its status bytes ST1 and ST2, and the file offset and length of its data,
-- which are of the block's size code.
unfoldable pub sector_info : List ℕ → ℕ → ℕ → SectorInfo
sector_info b e k =
    record {
      cylinder = entry_track b e k;
      head = entry_side b e k;
      id = entry_id b e k;
      code = entry_code b e k;
      status1 = entry_status1 b e k;
      status2 = entry_status2 b e k;
      offset = data_at b e k;
      length = data_size b e;
    }

-- DK-14: sector k of the block of track t and side s, or 30 to 35, then 13, then 14.
unfoldable pub sector_answer : List ℕ → ℕ → ℕ → ℕ → Result SectorInfo Fault
sector_answer b t s k = unless (sector_question b t s k) (Ok (sector_info b (block_of b t s) k)) Err

-- ---- a sector's data

-- DK-15: the data of a sector: so many bytes from the file offset on.
abbrev pub data_of : List ℕ → SectorInfo → List ℕ
data_of b d = take d.length (drop d.offset b)

-- DK-15: the data as that part of the image; the empty part where the sector is refused.
abbrev pub part_of : List ℕ → Result SectorInfo Fault → List ℕ
part_of b (Ok d) = data_of b d
part_of b (Err r) = []

-- DK-15: the file offset at which the part starts, 0 where the sector is refused.
abbrev pub start_of : Result SectorInfo Fault → ℕ
start_of (Ok d) = d.offset
start_of (Err r) = 0

-- DK-15: the data of sector k of the block of track t and side s.
abbrev pub data_part : List ℕ → ℕ → ℕ → ℕ → List ℕ
data_part b t s k = part_of b (sector_answer b t s k)

-- DK-15: where that part starts.
abbrev pub data_start : List ℕ → ℕ → ℕ → ℕ → ℕ
data_start b t s k = start_of (sector_answer b t s k)
