-- What stands at each place of an image that was written: the fields of its blocks, its sector lists and its data.
use Prim.Native.Nat.{ℕ, ◌+◌, ◌-◌, ◌*◌, ◌/◌, ◌%◌, ◌<◌, ◌≤◌}
use mathlib.Core.Path.{◌≡◌, refl, sym, ap, ◌∙◌}
use mathlib.Core.List.{List, [], ◌∷◌, ◌++◌, append_assoc}
use native.Mathlib.Nat.{add-mul, mul_assoc, mul_comm}
use native.Mathlib.Omega.{arith}
use lib.ListN.{length, take, drop, replicate, length-append, length-drop}
use lib.Seq.{length-take-le, drop-drop, drop_at, take-append_seam}
use Rattle.octets.specs.Numbers.{byte_at, le_at, le_bytes}
use Rattle.dsk_fields.specs.Fields.{sign_text, block_text, info_size, tracks, sides, track_size, track_number, side_number, size_code, sectors, gap_length, filler_byte, entry_at, entry_track, entry_side, entry_id, entry_code, entry_status1, entry_status2, sector_size}
use Rattle.dsk_fields.proofs.Strides.{stride}
use Rattle.dsk_layout.specs.declared.Layout.{Layout}
use Rattle.dsk_layout.specs.Layouts.{track_data, track_length, image_length, Writable}
use Rattle.dsk_write.specs.Images.{joined_from, opening_text, geometry_bytes, header_bytes, entry_bytes, number_bytes, list_bytes, info_bytes, block_offset, data_of_block, block_bytes, track_bytes, image_bytes}
use Rattle.dsk_write.proofs.Joined.{part_at}
use Rattle.dsk_write.proofs.Sizes.{header_length, info_length, block_length, track_length_lem, image_length_lem}
use Rattle.dsk_theorems.proofs.Slices.{byte_behind, drop_behind, front, within, sector_start}

-- ---- the Disc Information Block, and what follows it

module _ (c : List ℕ) (l : Layout) (x : List ℕ) (h : length c ≡ 14) where
  -- what stands behind the geometry, the creator and the opening
  later : List ℕ
  later = replicate (info_size - length (opening_text ++ c ++ geometry_bytes l)) 0 ++ x

  opened : drop 34 (header_bytes c l ++ x) ≡ c ++ (geometry_bytes l ++ later)
  unfolding header_bytes later
  opened =
      let zeros : List ℕ = replicate (info_size - length (opening_text ++ c ++ geometry_bytes l)) 0 in
      append_assoc (c ++ geometry_bytes l) zeros x ∙ append_assoc c (geometry_bytes l) (zeros ++ x)

  geometry_at : drop 48 (header_bytes c l ++ x) ≡ geometry_bytes l ++ later
  geometry_at = drop_behind (header_bytes c l ++ x) 34 14 opened ∙ drop_at c (geometry_bytes l ++ later) 14 h

  pub tracks_at : tracks (header_bytes c l ++ x) ≡ l.tracks
  tracks_at = byte_behind (header_bytes c l ++ x) 48 0 geometry_at

  pub sides_at : sides (header_bytes c l ++ x) ≡ l.sides
  sides_at = byte_behind (header_bytes c l ++ x) 48 1 geometry_at

  pub size_at : track_length l ≤ 65_535 → track_size (header_bytes c l ++ x) ≡ track_length l
  unfolding le_at le_bytes
  size_at k =
      let low : byte_at (header_bytes c l ++ x) 50 ≡ track_length l % 256 = byte_behind (header_bytes c l ++ x) 48 2 geometry_at in
      let high : byte_at (header_bytes c l ++ x) 51 ≡ track_length l / 256 % 256 = byte_behind (header_bytes c l ++ x) 48 3 geometry_at in
      omega arith

  pub sign_at : take 8 (header_bytes c l ++ x) ≡ sign_text
  unfolding header_bytes
  sign_at = refl

  pub creator_at : take 14 (drop 34 (header_bytes c l ++ x)) ≡ c
  creator_at =
      ap (take 14) opened ∙ ap (λ (n : ℕ). take n (c ++ (geometry_bytes l ++ later))) (sym h) ∙ take-append_seam c (geometry_bytes l ++ later)

-- ---- a block

-- the block of track t and side s, with the data of block i, stands at offset e of b
pub record Stands (b : List ℕ) (l : Layout) (d : List ℕ) (e t s i : ℕ) : Type 0 where
  pub more : List ℕ
  pub info : drop e b ≡ info_bytes l t s ++ (data_of_block l d i ++ more)

module _ (b : List ℕ) (l : Layout) (d : List ℕ) (e t s i : ℕ) (few : l.sectors ≤ 29) (h : Stands b l d e t s i) where
  pub name_at : take 12 (drop e b) ≡ block_text
  unfolding info_bytes
  name_at = ap (take 12) h.info

  pub track_at : track_number b e ≡ t
  unfolding info_bytes
  track_at = byte_behind b e 0x10 h.info

  pub side_at : side_number b e ≡ s
  unfolding info_bytes
  side_at = byte_behind b e 0x11 h.info

  pub code_at : size_code b e ≡ l.code
  unfolding info_bytes
  code_at = byte_behind b e 0x14 h.info

  pub count_at : sectors b e ≡ l.sectors
  unfolding info_bytes
  count_at = byte_behind b e 0x15 h.info

  pub gap_at : gap_length b e ≡ l.gap
  unfolding info_bytes
  gap_at = byte_behind b e 0x16 h.info

  pub filler_at : filler_byte b e ≡ l.filler
  unfolding info_bytes
  filler_at = byte_behind b e 0x17 h.info

  -- the sector information list
  zeros_rest : List ℕ
  zeros_rest = replicate (info_size - length (block_text ++ (0 ∷ 0 ∷ 0 ∷ 0 ∷ []) ++ number_bytes l t s ++ list_bytes l t s)) 0 ++ (data_of_block l d i ++ h.more)

  list_at : drop (e + 24) b ≡ list_bytes l t s ++ zeros_rest
  unfolding info_bytes zeros_rest
  list_at =
      drop_behind b e 24 h.info
      ∙ append_assoc (list_bytes l t s) (replicate (info_size - length (block_text ++ (0 ∷ 0 ∷ 0 ∷ 0 ∷ []) ++ number_bytes l t s ++ list_bytes l t s)) 0) (data_of_block l d i ++ h.more)

  entry_at_lem : (k : ℕ) → k < l.sectors → (rest : List ℕ) × (drop (entry_at e k) b ≡ entry_bytes t s l.code k ++ rest)
  entry_at_lem k below =
      let r = part_at (entry_bytes t s l.code) 8 l.sectors (λ j q. refl) k 0 l.sectors zeros_rest below (omega arith) in
      let f : 0 + k ≡ k = omega arith in (
        r.0,
        drop_behind b (e + 24) (8 * k) list_at ∙ ap (λ (x : ℕ). drop x (list_bytes l t s ++ zeros_rest)) (mul_comm 8 k)
            ∙ r.1 ∙ ap (λ (x : ℕ). entry_bytes t s l.code x ++ r.0) f,
      )

  -- what its entry says of sector k
  pub record Entry (k : ℕ) : Type 0 where
    pub track : entry_track b e k ≡ t
    pub side : entry_side b e k ≡ s
    pub id : entry_id b e k ≡ k + 1
    pub code : entry_code b e k ≡ l.code
    pub first : entry_status1 b e k ≡ 0
    pub second : entry_status2 b e k ≡ 0

  pub entry : (k : ℕ) → k < l.sectors → Entry k
  entry k below =
      let at = entry_at e k in
      let here = (entry_at_lem k below).1 in
      let z : at + 0 ≡ at = omega arith in
      record {
        track = sym (ap (byte_at b) z) ∙ byte_behind b at 0 here;
        side = byte_behind b at 1 here;
        id = byte_behind b at 2 here;
        code = byte_behind b at 3 here;
        first = byte_behind b at 4 here;
        second = byte_behind b at 5 here;
      }

  -- the data
  data_at_lem : drop (e + 256) b ≡ data_of_block l d i ++ h.more
  data_at_lem = drop_behind b e 256 h.info ∙ drop_at (info_bytes l t s) (data_of_block l d i ++ h.more) 256 (info_length l t s few)

  pub sector_at : (k : ℕ) → k < l.sectors → i * track_data l + track_data l ≤ length d
      → take (sector_size l.code) (drop (e + 256 + k * sector_size l.code) b)
      ≡ take (sector_size l.code) (drop ((i * l.sectors + k) * sector_size l.code) d)
  sector_at k below room =
      let size = sector_size l.code in
      let y = drop (i * track_data l) d in
      let m = stride (sector_size l.code) below in
      let ly = length-drop (i * track_data l) d in
      let a : track_data l ≤ length (drop (i * track_data l) d) = omega arith in
      let lp : length (data_of_block l d i) ≡ track_data l = length-take-le (track_data l) (drop (i * track_data l) d) a in
      ap (take size) (drop_behind b (e + 256) (k * size) data_at_lem)
      ∙ front (data_of_block l d i) h.more (k * size) size (omega arith)
      ∙ within y (track_data l) (k * size) size (omega arith) a
      ∙ ap (take size) (drop-drop (k * size) (i * track_data l) d)
      ∙ ap (λ (x : ℕ). take size (drop x d)) (sector_start i l.sectors size k)

-- ---- all blocks

module _ (c : List ℕ) (l : Layout) (d rest : List ℕ) (w : Writable l (length c) (length d)) where
  -- the image and what follows it
  abbrev pub written : List ℕ
  written = header_bytes c l ++ (joined_from (track_bytes l d) 0 l.tracks ++ rest)

  pub written_is : image_bytes c l d ++ rest ≡ written
  unfolding image_bytes
  written_is = append_assoc (header_bytes c l) (joined_from (track_bytes l d) 0 l.tracks) rest

  pub written_length : image_length l ≤ length written
  written_length =
      let n = image_length_lem c l d w in
      let a = length-append (image_bytes c l d) rest in
      let e = ap (λ (x : List ℕ). length x) written_is in
      omega arith

  blocks_at : drop 256 written ≡ joined_from (track_bytes l d) 0 l.tracks ++ rest
  blocks_at = drop_at (header_bytes c l) (joined_from (track_bytes l d) 0 l.tracks ++ rest) 256 (header_length c l w.creator)

  block_parts : (t s : ℕ) (x : List ℕ) → block_bytes l d t s ++ x ≡ info_bytes l t s ++ (data_of_block l d (t * l.sides + s) ++ x)
  unfolding block_bytes
  block_parts t s x = append_assoc (info_bytes l t s) (data_of_block l d (t * l.sides + s)) x

  pub stands : (t s : ℕ) → t < l.tracks → s < l.sides → Stands written l d (block_offset l t s) t s (t * l.sides + s)
  stands t s h k =
      let size = l.sides * track_length l in
      let track = part_at (track_bytes l d) (l.sides * track_length l) l.tracks (λ j q. track_length_lem l d w.sectors_most w.content q) t 0 l.tracks rest h (omega arith) in
      let side = part_at (block_bytes l d t) (track_length l) l.sides (λ j q. block_length l d w.sectors_most w.content h q) s 0 l.sides track.0 k (omega arith) in
      let t₀ : 0 + t ≡ t = omega arith in
      let s₀ : 0 + s ≡ s = omega arith in
      let e = add-mul (t * l.sides) s (track_length l) in
      let f = mul_assoc t l.sides (track_length l) in
      let at : block_offset l t s ≡ 256 + t * size + s * track_length l = omega arith in
      record {
        more = side.0;
        info =
            ap (λ (x : ℕ). drop x written) at
            ∙ drop_behind written (256 + t * size) (s * track_length l)
            (drop_behind written 256 (t * size) blocks_at ∙ track.1 ∙ ap (λ (x : ℕ). track_bytes l d x ++ track.0) t₀)
            ∙ side.1 ∙ ap (λ (x : ℕ). block_bytes l d t x ++ side.0) s₀ ∙ block_parts t s side.0;
      }
