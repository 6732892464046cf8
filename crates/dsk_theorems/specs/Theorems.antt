-- What writing and reading a DSK image are proved to be to each other. The proofs stand in proofs/.
use Rattle.std.specs.Prelude.{ℕ, ◌+◌, ◌*◌, ◌<◌, ◌≤◌, ◌≡◌, ◌↔◌, List, length, take, drop, Ok}
use Rattle.dsk_fields.specs.Fields.{info_size, sector_size}
use Rattle.dsk.specs.Answers.{validate_answer, geometry_answer, block_answer, sector_answer, data_part}
use Rattle.dsk_layout.specs.declared.Layout.{Layout}
use Rattle.dsk_layout.specs.Layouts.{track_length, image_length, Writable}
use Rattle.dsk_write.specs.Images.{joined_from, block_offset, image_bytes}
use Rattle.dsk_write.specs.Writing.{write_answer, buffer_after}

-- ---- when an image is written

-- DK-19, DK-26: writing into so many places is answered with the length n.
pub record Writes (c : List ℕ) (l : Layout) (d : List ℕ) (places n : ℕ) : Type 0 where
  pub writable : Writable l (length c) (length d)
  pub size : n ≡ image_length l
  pub fits : n ≤ places

-- DK-19: so it is exactly where what is asked for can be written and its image fits.
abbrev pub WritesExactly : Type 0
WritesExactly =
    (c : List ℕ) (l : Layout) (d : List ℕ) (places n : ℕ) → (write_answer c l d places ≡ Ok n) ↔ Writes c l d places n

-- ---- what is written reads back

-- DK-28: the data of all sectors that the image b has, in order: so many tracks, sides, and sectors of each block.
abbrev pub all_sectors : List ℕ → Layout → List ℕ
all_sectors b l = joined_from (λ t. joined_from (λ s. joined_from (data_part b t s) 0 l.sectors) 0 l.sides) 0 l.tracks

-- DK-28: the calls on the image b accept it and yield the layout l, each sector's identity, and the data d; the creator c stands at 0x22.
pub record ReadsBack (b c : List ℕ) (l : Layout) (d : List ℕ) : Type 0 where
  pub accepted : validate_answer b ≡ Ok tt
  pub geometry : geometry_answer b ≡ Ok (record { tracks = l.tracks; sides = l.sides; size = track_length l })
  pub blocks : (t s : ℕ) → t < l.tracks → s < l.sides
      → block_answer b t s ≡ Ok (record { sectors = l.sectors; code = l.code; gap = l.gap; filler = l.filler })
  pub sectors : (t s k : ℕ) → t < l.tracks → s < l.sides → k < l.sectors
      → sector_answer b t s k
      ≡ Ok (record {
        cylinder = t;
        head = s;
        id = k + 1;
        code = l.code;
        status1 = 0;
        status2 = 0;
        offset = block_offset l t s + info_size + k * sector_size l.code;
        length = sector_size l.code;
      })
  pub contents : (t s k : ℕ) → t < l.tracks → s < l.sides → k < l.sectors
      → data_part b t s k ≡ take (sector_size l.code) (drop (((t * l.sides + s) * l.sectors + k) * sector_size l.code) d)
  pub joined : all_sectors b l ≡ d
  pub creator : take 14 (drop 0x22 b) ≡ c

-- DK-28: where writing answers with a length, what it leaves reads back.
abbrev pub RoundTrip : Type 0
RoundTrip =
    (c : List ℕ) (l : Layout) (d old : List ℕ) (n : ℕ) → write_answer c l d (length old) ≡ Ok n
    → ReadsBack (buffer_after old (image_bytes c l d) (Ok n)) c l d

-- ---- different inputs, different images

-- DK-29: two inputs of writing are the same.
pub record SameInput (c : List ℕ) (l : Layout) (d : List ℕ) (c₂ : List ℕ) (l₂ : Layout) (d₂ : List ℕ) : Type 0 where
  pub creator : c ≡ c₂
  pub layout : l ≡ l₂
  pub content : d ≡ d₂

-- DK-29: two different inputs never give the same image.
abbrev pub WritesApart : Type 0
WritesApart =
    (c : List ℕ) (l : Layout) (d : List ℕ) (c₂ : List ℕ) (l₂ : Layout) (d₂ : List ℕ)
    → Writable l (length c) (length d) → Writable l₂ (length c₂) (length d₂) → image_bytes c l d ≡ image_bytes c₂ l₂ d₂ → SameInput c l d c₂ l₂ d₂

-- DK-29: nor does one image open another: where writing leaves the same bytes in two buffers, whatever stood there before, and whatever stands
-- behind the images, the inputs are the same.
abbrev pub LeavesApart : Type 0
LeavesApart =
    (c : List ℕ) (l : Layout) (d old : List ℕ) (n : ℕ) (c₂ : List ℕ) (l₂ : Layout) (d₂ old₂ : List ℕ) (n₂ : ℕ)
    → write_answer c l d (length old) ≡ Ok n → write_answer c₂ l₂ d₂ (length old₂) ≡ Ok n₂
    → buffer_after old (image_bytes c l d) (Ok n) ≡ buffer_after old₂ (image_bytes c₂ l₂ d₂) (Ok n₂)
    → SameInput c l d c₂ l₂ d₂
