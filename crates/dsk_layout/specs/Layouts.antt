-- What a DSK image that is to be written has, how large it is, and what is not written (DK-17 to DK-19, R-41).
use Rattle.std.specs.Prelude.{ℕ, ◌+◌, ◌*◌, ◌≤◌, ◌≡◌, ◌↔◌, ◌⊎◌, Bool, false, not, ◌||◌, cond, eqb, ltb, Result, Ok, Err}
use Rattle.refusals.specs.Refusals.{Fault, refusal}
use Rattle.dsk_fields.specs.Fields.{info_size, sector_size}
use Rattle.dsk_layout.specs.declared.Layout.{Layout}
use Rattle.dsk_layout.specs.declared.LayoutNumbers.{LayoutNumbers}

-- DK-17: tracks, sides, sectors of each block, their size code, gap and filler, as they are asked for.
abbrev pub layout_of : ℕ → ℕ → ℕ → ℕ → ℕ → ℕ → Layout
layout_of tracks sides sectors code gap filler =
    record { tracks = tracks; sides = sides; sectors = sectors; code = code; gap = gap; filler = filler }

-- DK-17: the layout of the numbers that are asked for.
abbrev pub asked_for : LayoutNumbers → Layout
asked_for n = layout_of n.tracks n.sides n.sectors n.code n.gap n.filler

-- ---- sizes

-- DK-18: how many bytes of data a block has: those of its sectors.
abbrev pub track_data : Layout → ℕ
track_data l = l.sectors * sector_size l.code

-- DK-18: the track size is 256 plus the data.
abbrev pub track_length : Layout → ℕ
track_length l = info_size + track_data l

-- DK-18: how many blocks there are, one for each side of each track.
abbrev pub block_count : Layout → ℕ
block_count l = l.tracks * l.sides

-- DK-18: how many bytes of data all blocks have.
abbrev pub all_data : Layout → ℕ
all_data l = block_count l * track_data l

-- DK-18: how many bytes the image has: the Disc Information Block and all blocks.
abbrev pub image_length : Layout → ℕ
image_length l = info_size + block_count l * track_length l

-- ---- 41

-- R-41: tracks are not 1 to 255, sides not 1 or 2, there are more than 29 sectors, the size code is above 5, or gap or filler is above 255.
abbrev pub bad_numbers : Layout → Bool
bad_numbers l =
    (ltb l.tracks 1 || ltb 255 l.tracks)
    || (not (eqb l.sides 1 || eqb l.sides 2)
    || (ltb 29 l.sectors || (ltb 5 l.code || (ltb 255 l.gap || ltb 255 l.filler))))

-- R-41: the creator has not 14 bytes, the track size is above 65,535, or the data have another length.
abbrev pub bad_sizes : Layout → ℕ → ℕ → Bool
bad_sizes l creator_size content_size = not (eqb creator_size 14) || (ltb 65_535 (track_length l) || not (eqb content_size (all_data l)))

-- R-41 Layout (the request calls it Geometry): what is not written, of a creator and data of so many bytes.
unfoldable pub bad_layout : Layout → ℕ → ℕ → Bool
bad_layout l creator_size content_size = bad_numbers l || bad_sizes l creator_size content_size

-- R-41: it is refused at position 0.
abbrev pub refused_layout : Result Layout Fault
refused_layout = Err (refusal 41 0)

-- R-41: the layout, unless it is refused.
unfoldable pub layout_answer : Layout → ℕ → ℕ → Result Layout Fault
layout_answer l creator_size content_size = cond (bad_layout l creator_size content_size) refused_layout (Ok l)

-- ---- the same as a list of plain statements

-- DK-19: what an image is written of.
pub record Writable (l : Layout) (creator_size content_size : ℕ) : Type 0 where
  pub tracks_least : 1 ≤ l.tracks
  pub tracks_most : l.tracks ≤ 255
  pub one_or_two : (l.sides ≡ 1) ⊎ (l.sides ≡ 2)
  pub sectors_most : l.sectors ≤ 29
  pub code_most : l.code ≤ 5
  pub gap_most : l.gap ≤ 255
  pub filler_most : l.filler ≤ 255
  pub creator : creator_size ≡ 14
  pub track_most : track_length l ≤ 65_535
  pub content : content_size ≡ all_data l

-- DK-19: 41 refuses exactly what is not so.
abbrev pub RefusesExactly : Type 0
RefusesExactly = (l : Layout) (creator_size content_size : ℕ) → (bad_layout l creator_size content_size ≡ false) ↔ Writable l creator_size content_size
