-- The fields of a standard DSK image, and where its track blocks, sectors and sector data stand (DK-1 to DK-7).
use Rattle.std.specs.Prelude.{ℕ, ◌+◌, ◌*◌, ◌^◌, List, [], ◌∷◌, Bool, true, false, ◌&&◌, cond, drop, eqb, ltb}
use Rattle.octets.specs.Numbers.{byte_at, le16_at}

-- ---- texts

-- DK-1, DK-4: the bytes begin with the text.
unfoldable pub begins_with : List ℕ → List ℕ → Bool
begins_with [] bytes = true
begins_with (c ∷ text) [] = false
begins_with (c ∷ text) (x ∷ bytes) = eqb x c && begins_with text bytes

-- DK-1, DK-4: the text stands at offset i.
abbrev pub says_at : List ℕ → ℕ → List ℕ → Bool
says_at b i text = begins_with text (drop i b)

-- DK-1: "MV - CPC".
abbrev pub sign_text : List ℕ
sign_text = 0x4D ∷ 0x56 ∷ 0x20 ∷ 0x2D ∷ 0x20 ∷ 0x43 ∷ 0x50 ∷ 0x43 ∷ []

-- DK-4: "Track-Info\r\n", 12 characters.
abbrev pub block_text : List ℕ
block_text = 0x54 ∷ 0x72 ∷ 0x61 ∷ 0x63 ∷ 0x6B ∷ 0x2D ∷ 0x49 ∷ 0x6E ∷ 0x66 ∷ 0x6F ∷ 0x0D ∷ 0x0A ∷ []

-- ---- the Disc Information Block

-- DK-2, DK-4: how many bytes the Disc Information Block has, and each Track Information Block.
abbrev pub info_size : ℕ
info_size = 256

-- DK-2: the number of tracks.
abbrev pub tracks : List ℕ → ℕ
tracks b = byte_at b 0x30

-- DK-2: the number of sides.
abbrev pub sides : List ℕ → ℕ
sides b = byte_at b 0x31

-- DK-2: the size of a track block, its Track Information Block included.
abbrev pub track_size : List ℕ → ℕ
track_size b = le16_at b 0x32

-- ---- where the track blocks stand

-- DK-3: the index of the block of track t and side s: track 0 side 0, track 0 side 1, track 1 side 0, and so on.
abbrev pub block_index : List ℕ → ℕ → ℕ → ℕ
block_index b t s = t * sides b + s

-- DK-3: the file offset of block i: the blocks follow the Disc Information Block, all of the same size.
abbrev pub block_at : List ℕ → ℕ → ℕ
block_at b i = info_size + i * track_size b

-- DK-3: the file offset of the block of track t and side s.
abbrev pub block_of : List ℕ → ℕ → ℕ → ℕ
block_of b t s = block_at b (block_index b t s)

-- DK-3: where the last block ends: 256 + tracks x sides x track size.
abbrev pub image_size : List ℕ → ℕ
image_size b = block_at b (tracks b * sides b)

-- ---- the Track Information Block at file offset e

-- DK-4: its track number.
abbrev pub track_number : List ℕ → ℕ → ℕ
track_number b e = byte_at b (e + 0x10)

-- DK-4: its side number.
abbrev pub side_number : List ℕ → ℕ → ℕ
side_number b e = byte_at b (e + 0x11)

-- DK-4: its size code N.
abbrev pub size_code : List ℕ → ℕ → ℕ
size_code b e = byte_at b (e + 0x14)

-- DK-4: its number of sectors.
abbrev pub sectors : List ℕ → ℕ → ℕ
sectors b e = byte_at b (e + 0x15)

-- DK-4: the length of its gap 3.
abbrev pub gap_length : List ℕ → ℕ → ℕ
gap_length b e = byte_at b (e + 0x16)

-- DK-4: its filler byte.
abbrev pub filler_byte : List ℕ → ℕ → ℕ
filler_byte b e = byte_at b (e + 0x17)

-- DK-5: the file offset of entry k of its sector information list.
abbrev pub entry_at : ℕ → ℕ → ℕ
entry_at e k = e + 0x18 + 8 * k

-- DK-5: the track C of sector k.
abbrev pub entry_track : List ℕ → ℕ → ℕ → ℕ
entry_track b e k = byte_at b (entry_at e k)

-- DK-5: the side H of sector k.
abbrev pub entry_side : List ℕ → ℕ → ℕ → ℕ
entry_side b e k = byte_at b (entry_at e k + 1)

-- DK-5: the sector ID R of sector k.
abbrev pub entry_id : List ℕ → ℕ → ℕ → ℕ
entry_id b e k = byte_at b (entry_at e k + 2)

-- DK-5: the size code N of sector k, its own.
abbrev pub entry_code : List ℕ → ℕ → ℕ → ℕ
entry_code b e k = byte_at b (entry_at e k + 3)

-- DK-5: the status byte ST1 of sector k.
abbrev pub entry_status1 : List ℕ → ℕ → ℕ → ℕ
entry_status1 b e k = byte_at b (entry_at e k + 4)

-- DK-5: the status byte ST2 of sector k.
abbrev pub entry_status2 : List ℕ → ℕ → ℕ → ℕ
entry_status2 b e k = byte_at b (entry_at e k + 5)

-- ---- sector data

-- DK-6: a sector of code n takes 128 x 2^n bytes, and for code 6 only 0x1800. A greater code, which R-34 refuses first, counts as 6 here.
unfoldable pub sector_size : ℕ → ℕ
sector_size n = cond (ltb n 6) (128 * 2 ^ n) 0x1800

-- DK-6: how many bytes each sector of the block at e takes, whatever its own code: those of the block's N.
abbrev pub data_size : List ℕ → ℕ → ℕ
data_size b e = sector_size (size_code b e)

-- DK-7: the file offset of the data of sector k of the block at e.
abbrev pub data_at : List ℕ → ℕ → ℕ → ℕ
data_at b e k = e + info_size + k * data_size b e
