-- What a DSK image must obey to be accepted (DK-8), as a list of plain statements, and the claim that refusals 30 to 35 refuse exactly what
-- breaks it.
use Rattle.std.specs.Prelude.{ℕ, ◌+◌, ◌*◌, ◌<◌, ◌≤◌, ◌≡◌, ◌↔◌, ◌⊎◌, List, length, take, drop}
use Rattle.refusals.specs.Refusals.{none}
use Rattle.dsk_fields.specs.Fields.{sign_text, block_text, info_size, tracks, sides, track_size, block_of, image_size, track_number, side_number, size_code, sectors, entry_code, data_size}
use Rattle.dsk_check.specs.Faults.{dsk_fault}

-- DK-8: the block at file offset e has its name and its own numbers, at most 29 sectors, a code up to 6 and no sector with a larger one, and
-- the data of its sectors fit in it.
pub record BlockHolds (b : List ℕ) (e t s : ℕ) : Type 0 where
  pub name : take 12 (drop e b) ≡ block_text
  pub track : track_number b e ≡ t
  pub side : side_number b e ≡ s
  pub count : sectors b e ≤ 29
  pub code : size_code b e ≤ 6
  pub codes : (k : ℕ) → k < sectors b e → entry_code b e k ≤ size_code b e
  pub room : info_size + sectors b e * data_size b e ≤ track_size b

-- DK-8, DK-9: the image obeys all that is asked. `whole` has the 256 bytes of the first 32 in it; the image may be longer, and what stands after
-- the last block is not looked at.
pub record Valid (b : List ℕ) : Type 0 where
  pub sign : take 8 b ≡ sign_text
  pub one_or_two : (sides b ≡ 1) ⊎ (sides b ≡ 2)
  pub tracks_least : 1 ≤ tracks b
  pub size_least : info_size ≤ track_size b
  pub whole : image_size b ≤ length b
  pub blocks : (t s : ℕ) → t < tracks b → s < sides b → BlockHolds b (block_of b t s) t s

-- DK-8: refusals 30 to 35 refuse exactly what does not obey.
abbrev pub ValidatesExactly : Type 0
ValidatesExactly = (b : List ℕ) → (dsk_fault b ≡ none) ↔ Valid b
