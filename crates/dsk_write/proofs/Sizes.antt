-- How long the parts of an image are, and where its blocks and their data lie.
use Prim.Native.Nat.{ℕ, ◌+◌, ◌-◌, ◌*◌, ◌<◌, ◌≤◌}
use mathlib.Core.Path.{◌≡◌, refl, ◌∙◌}
use mathlib.Core.List.{List, [], ◌∷◌, ◌++◌}
use native.Mathlib.Nat.{mul_assoc, mul_comm}
use native.Mathlib.Omega.{arith}
use lib.ListN.{length, drop, replicate, length-append, length-replicate, length-drop}
use lib.Seq.{length-take-le}
use Rattle.octets.proofs.Numbers.{le_length}
use Rattle.dsk_fields.specs.Fields.{info_size, block_text}
use Rattle.dsk_fields.proofs.Strides.{part_ends}
use Rattle.dsk_layout.specs.declared.Layout.{Layout}
use Rattle.dsk_layout.specs.Layouts.{track_data, track_length, all_data, image_length, Writable}
use Rattle.dsk_write.specs.Images.{filled_up, opening_text, geometry_bytes, header_bytes, entry_bytes, number_bytes, list_bytes, info_bytes, block_offset, data_of_block, block_bytes, track_bytes, image_bytes, joined_from}
use Rattle.dsk_write.specs.Steps.{Located}
use Rattle.dsk_write.proofs.Joined.{joined_length}

-- ---- the information blocks

filled_length : (xs : List ℕ) → length xs ≤ 256 → length (filled_up xs) ≡ 256
filled_length xs h =
    let zeros : List ℕ = replicate (info_size - length xs) 0 in
    let a = length-append xs zeros in
    let z = length-replicate {A = ℕ} (info_size - length xs) 0 in
    omega arith

-- what is said in the Disc Information Block
pub header_said : (c : List ℕ) (l : Layout) → length c ≡ 14 → length (opening_text ++ c ++ geometry_bytes l) ≡ 52
header_said c l h =
    let a = length-append (opening_text ++ c) (geometry_bytes l) in
    let n = le_length 2 (track_length l) in
    omega arith

pub header_length : (c : List ℕ) (l : Layout) → length c ≡ 14 → length (header_bytes c l) ≡ 256
unfolding header_bytes
header_length c l h = let n = header_said c l h in filled_length (opening_text ++ c ++ geometry_bytes l) (omega arith)

pub list_length : (t s code n : ℕ) → length (joined_from (entry_bytes t s code) 0 n) ≡ 8 * n
list_length t s code n = joined_length (entry_bytes t s code) 8 n (λ i h. refl) 0 n (omega arith) ∙ mul_comm n 8

-- what is said in a Track Information Block
pub info_said : (l : Layout) (t s : ℕ) → length (block_text ++ (0 ∷ 0 ∷ 0 ∷ 0 ∷ []) ++ number_bytes l t s ++ list_bytes l t s) ≡ 24 + 8 * l.sectors
info_said l t s = let n = list_length t s l.code l.sectors in omega arith

pub info_length : (l : Layout) (t s : ℕ) → l.sectors ≤ 29 → length (info_bytes l t s) ≡ 256
unfolding info_bytes
info_length l t s h =
    let n = info_said l t s in
    filled_length (block_text ++ (0 ∷ 0 ∷ 0 ∷ 0 ∷ []) ++ number_bytes l t s ++ list_bytes l t s) (omega arith)

-- ---- the blocks

-- a block lies in the image, and its data in the data
pub block_within : (l : Layout) {t s : ℕ} → t < l.tracks → s < l.sides → block_offset l t s + track_length l ≤ image_length l
block_within l h k = let m = part_ends l.sides (track_length l) l.tracks h k in omega arith

pub data_within : (l : Layout) {t s : ℕ} → t < l.tracks → s < l.sides → (t * l.sides + s) * track_data l + track_data l ≤ all_data l
data_within l h k = part_ends l.sides (track_data l) l.tracks h k

-- the offsets of the block and of its data, as they are reckoned from the layout's numbers
pub located : (l : Layout) {t s a b c size track : ℕ} → t < l.tracks → s < l.sides → a ≡ t → b ≡ l.sides → c ≡ s → size ≡ track_data l
    → track ≡ track_length l → Located l t s (record { block = info_size + (a * b + c) * track; content = (a * b + c) * size; size = size })
located l {t} {s} {a} {b} {c} {size} {track} h k p q r e f =
    let room = block_within l h k in
    let within = data_within l h k in
    let block : info_size + (a * b + c) * track ≡ block_offset l t s = rw (p, q, r, f) in
    let content : (a * b + c) * size ≡ (t * l.sides + s) * track_data l = rw (p, q, r, e) in
    record { block = block; content = content; size = e; room = omega arith; within = omega arith }

module _ (l : Layout) (d : List ℕ) (few : l.sectors ≤ 29) (content : length d ≡ all_data l) where
  pub data_length : {t s : ℕ} → t < l.tracks → s < l.sides → length (data_of_block l d (t * l.sides + s)) ≡ track_data l
  data_length {t} {s} h k =
      let w = data_within l h k in
      let n = length-drop ((t * l.sides + s) * track_data l) d in
      length-take-le (track_data l) (drop ((t * l.sides + s) * track_data l) d) (omega arith)

  pub block_length : {t s : ℕ} → t < l.tracks → s < l.sides → length (block_bytes l d t s) ≡ track_length l
  unfolding block_bytes
  block_length {t} {s} h k =
      let a = length-append (info_bytes l t s) (data_of_block l d (t * l.sides + s)) in
      let i = info_length l t s few in
      let n = data_length h k in
      omega arith

  pub track_length_lem : {t : ℕ} → t < l.tracks → length (track_bytes l d t) ≡ l.sides * track_length l
  track_length_lem {t} h = joined_length (block_bytes l d t) (track_length l) l.sides (λ s k. block_length h k) 0 l.sides (omega arith)

-- the whole image has the length that its layout says
pub image_length_lem : (c : List ℕ) (l : Layout) (d : List ℕ) → Writable l (length c) (length d) → length (image_bytes c l d) ≡ image_length l
unfolding image_bytes
image_length_lem c l d w =
    let a = length-append (header_bytes c l) (joined_from (track_bytes l d) 0 l.tracks) in
    let h = header_length c l w.creator in
    let tracks = joined_length (track_bytes l d) (l.sides * track_length l) l.tracks (λ t k. track_length_lem l d w.sectors_most w.content k) 0 l.tracks (omega arith) in
    let m = mul_assoc l.tracks l.sides (track_length l) in
    omega arith
