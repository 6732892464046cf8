-- The header and the table (L-2 to L-12, L-17).
use Rattle.std.specs.Prelude.{ℕ, ◌+◌, ◌-◌, ◌*◌, ◌/◌, ◌%◌, List, Bool, cond, length, drop, eqb, ltb}
use Rattle.octets.specs.Numbers.{byte_at, le32_at}
use Rattle.octets.specs.Sums.{byte_sum}
use Rattle.refusals.specs.Search.{list_from}
use Rattle.scp_fields.specs.Editions.{table_at, slots, footers}
use Rattle.scp_fields.specs.declared.Edition.{Edition}

-- ---- numbers that a later ruling could move

-- R-1: the most bytes of an image.
abbrev pub size_limit : ℕ
size_limit = 268_435_456

-- L-10: where the checksum stands.
abbrev pub checksum_at : ℕ
checksum_at = 0x0C

-- A-15: how many entries the table of an opened image has: those of the larger edition.
abbrev pub track_slots : ℕ
track_slots = 168

-- L-17, L-21: the bytes of the footer.
abbrev pub footer_size : ℕ
footer_size = 48

-- ---- fields

-- L-2: 0x03, the version byte, any.
abbrev pub version : List ℕ → ℕ
version b = byte_at b 0x03

-- L-2: 0x04, the disk type, any.
abbrev pub disk : List ℕ → ℕ
disk b = byte_at b 0x04

-- L-3: 0x05, the number of revolutions of every track, R.
abbrev pub revolutions : List ℕ → ℕ
revolutions b = byte_at b 0x05

-- L-4: 0x06, the start track, included.
abbrev pub start_track : List ℕ → ℕ
start_track b = byte_at b 0x06

-- L-4: 0x07, the end track, included.
abbrev pub end_track : List ℕ → ℕ
end_track b = byte_at b 0x07

-- L-5: 0x08, FLAGS.
abbrev pub flags : List ℕ → ℕ
flags b = byte_at b 0x08

-- L-6: FLAGS bit 4: read/write where it is set, read-only where it is clear.
abbrev pub read_write : List ℕ → Bool
read_write b = eqb (flags b / 16 % 2) 1

-- V-3, L-17: FLAGS bit 5, as a number; 0 by an edition to which it means nothing.
unfoldable pub footer_bit : Edition → List ℕ → ℕ
footer_bit v b = cond (footers v) (flags b / 32 % 2) 0

-- L-21: the image has a footer: FLAGS bit 5 is set, and means one.
abbrev pub has_footer : Edition → List ℕ → Bool
has_footer v b = eqb (footer_bit v b) 1

-- L-7: 0x09, the word width.
abbrev pub width : List ℕ → ℕ
width b = byte_at b 0x09

-- L-8: 0x0A, the heads: 0 both sides, 1 side 0 (even tracks), 2 side 1 (odd tracks).
abbrev pub heads : List ℕ → ℕ
heads b = byte_at b 0x0A

-- L-10: 0x0C, the checksum as it is stored.
abbrev pub stored_sum : List ℕ → ℕ
stored_sum b = le32_at b checksum_at

-- L-10: the true byte sum: of all bytes from 0x10 to the end of the image, modulo 2^32.
unfoldable pub true_sum : List ℕ → ℕ
true_sum b = byte_sum (drop 0x10 b)

-- L-11: 0x10, the table's entry of track t: the file offset of its track data header, or 0 for no track.
abbrev pub track_entry : List ℕ → ℕ → ℕ
track_entry b t = le32_at b (table_at + 4 * t)

-- V-2, A-15: the entry of track t as an opened image holds it: 0 behind the last of the edition.
unfoldable pub held_entry : Edition → List ℕ → ℕ → ℕ
held_entry v b t = cond (ltb t (slots v)) (track_entry b t) 0

-- L-11, A-15: the 168 entries that an opened image holds together.
abbrev pub entries : Edition → List ℕ → List ℕ
entries v b = list_from (held_entry v b) 0 track_slots

-- L-17: E, where tracks, flux and strings must end: the length of the image, less 48 if it has a footer.
abbrev pub data_end : Edition → List ℕ → ℕ
data_end v b = length b - footer_size * footer_bit v b
