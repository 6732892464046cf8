-- What the private functions ask of one another and leave behind.
-- No rule stands here.
use Rattle.std.specs.Prelude.{ℕ, ◌+◌, ◌*◌, ◌≤◌, ◌≡◌}
use Rattle.dsk_layout.specs.declared.Layout.{Layout}
use Rattle.dsk_layout.specs.Layouts.{track_data, track_length, all_data, image_length}
use Rattle.dsk_write.specs.declared.BlockOffsets.{BlockOffsets}
use Rattle.dsk_write.specs.Images.{block_offset}

-- What storing blocks asks for: few sectors, data of the length of all blocks, and an image of so many places.
pub record Roomy (l : Layout) (content_size places : ℕ) : Type 0 where
  pub few : l.sectors ≤ 29
  pub all : content_size ≡ all_data l
  pub room : image_length l ≤ places

-- The offsets of the block of track t and side s: it lies in the image, and its data in the data of all blocks.
pub record Located (l : Layout) (t s : ℕ) (o : BlockOffsets) : Type 0 where
  pub block : o.block ≡ block_offset l t s
  pub content : o.content ≡ (t * l.sides + s) * track_data l
  pub size : o.size ≡ track_data l
  pub room : o.block + track_length l ≤ image_length l
  pub within : o.content + track_data l ≤ all_data l
