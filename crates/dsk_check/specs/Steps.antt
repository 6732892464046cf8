-- What the private functions ask of one another.
-- No rule stands here.
use Rattle.std.specs.Prelude.{ℕ, ◌≤◌, List, length}
use Rattle.dsk_fields.specs.Fields.{info_size, track_size, image_size}

-- Every block lies whole in the image, and has room for its Track Information Block.
pub record Roomy (b : List ℕ) : Type 0 where
  pub whole : image_size b ≤ length b
  pub least : info_size ≤ track_size b
