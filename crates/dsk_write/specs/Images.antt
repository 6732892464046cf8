-- The DSK image of a creator, a layout and the data of its sectors: every byte of it (DK-20 to DK-25).
use Rattle.std.specs.Prelude.{ℕ, zero, suc, ◌+◌, ◌-◌, ◌*◌, List, [], ◌∷◌, ◌++◌, length, take, drop, replicate}
use Rattle.octets.specs.Numbers.{le_bytes}
use Rattle.dsk_fields.specs.Fields.{info_size, block_text}
use Rattle.dsk_layout.specs.declared.Layout.{Layout}
use Rattle.dsk_layout.specs.Layouts.{track_data, track_length}

-- DK-20: the bytes of n indices from i on, one after the other.
unfoldable pub joined_from : (ℕ → List ℕ) → ℕ → ℕ → List ℕ
joined_from part i zero = []
joined_from part i (suc n) = part i ++ joined_from part (i + 1) n

-- DK-21: an information block: what is said in it, filled up with zeros to 256 bytes.
abbrev pub filled_up : List ℕ → List ℕ
filled_up xs = xs ++ replicate (info_size - length xs) 0

-- ---- the Disc Information Block

-- DK-22: "MV - CPCEMU Disk-File\r\n_disk-Info\r\n", 34 characters.
abbrev pub opening_text : List ℕ
opening_text =
    0x4D ∷ 0x56 ∷ 0x20 ∷ 0x2D ∷ 0x20 ∷ 0x43 ∷ 0x50 ∷ 0x43 ∷ 0x45 ∷ 0x4D ∷ 0x55 ∷ 0x20 ∷ 0x44 ∷ 0x69 ∷ 0x73 ∷ 0x6B ∷ 0x2D ∷ 0x46 ∷ 0x69
    ∷ 0x6C ∷ 0x65 ∷ 0x0D ∷ 0x0A ∷ 0x44 ∷ 0x69 ∷ 0x73 ∷ 0x6B ∷ 0x2D ∷ 0x49 ∷ 0x6E ∷ 0x66 ∷ 0x6F ∷ 0x0D ∷ 0x0A ∷ []

-- DK-22: tracks, sides and track size, which has two bytes.
abbrev pub geometry_bytes : Layout → List ℕ
geometry_bytes l = l.tracks ∷ l.sides ∷ le_bytes 2 (track_length l)

-- DK-22: the opening, the creator c at 0x22, the geometry at 0x30.
unfoldable pub header_bytes : List ℕ → Layout → List ℕ
header_bytes c l = filled_up (opening_text ++ c ++ geometry_bytes l)

-- ---- a Track Information Block

-- DK-23: the entry of sector k: C, H, R from 1 on, N; status bytes and the rest 0.
abbrev pub entry_bytes : ℕ → ℕ → ℕ → ℕ → List ℕ
entry_bytes t s code k = t ∷ s ∷ (k + 1) ∷ code ∷ 0 ∷ 0 ∷ 0 ∷ 0 ∷ []

-- DK-23: what stands at 0x10: track, side, two bytes of 0, size code, number of sectors, gap, filler.
abbrev pub number_bytes : Layout → ℕ → ℕ → List ℕ
number_bytes l t s = t ∷ s ∷ 0 ∷ 0 ∷ l.code ∷ l.sectors ∷ l.gap ∷ l.filler ∷ []

-- DK-23: the sector information list of a block.
abbrev pub list_bytes : Layout → ℕ → ℕ → List ℕ
list_bytes l t s = joined_from (entry_bytes t s l.code) 0 l.sectors

-- DK-23: the name and four bytes of 0, the numbers at 0x10, the list at 0x18.
unfoldable pub info_bytes : Layout → ℕ → ℕ → List ℕ
info_bytes l t s = filled_up (block_text ++ (0 ∷ 0 ∷ 0 ∷ 0 ∷ []) ++ number_bytes l t s ++ list_bytes l t s)

-- ---- the image

-- DK-24: the file offset of the block of track t and side s: all blocks have the same size, and follow the Disc Information Block.
abbrev pub block_offset : Layout → ℕ → ℕ → ℕ
block_offset l t s = info_size + (t * l.sides + s) * track_length l

-- DK-24: the data of block i: the data are those of all blocks in file order.
abbrev pub data_of_block : Layout → List ℕ → ℕ → List ℕ
data_of_block l d i = take (track_data l) (drop (i * track_data l) d)

-- DK-24: the block of track t and side s, with its data.
unfoldable pub block_bytes : Layout → List ℕ → ℕ → ℕ → List ℕ
block_bytes l d t s = info_bytes l t s ++ data_of_block l d (t * l.sides + s)

-- DK-24: the blocks of track t, side by side.
abbrev pub track_bytes : Layout → List ℕ → ℕ → List ℕ
track_bytes l d t = joined_from (block_bytes l d t) 0 l.sides

-- DK-25: the whole image of the creator c, the layout l and the data d: the Disc Information Block and the blocks, track by track.
unfoldable pub image_bytes : List ℕ → Layout → List ℕ → List ℕ
image_bytes c l d = header_bytes c l ++ joined_from (track_bytes l d) 0 l.tracks
