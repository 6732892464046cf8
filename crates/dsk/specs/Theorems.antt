-- What the definitions of the calls are proved to mean. The proofs stand in proofs/.
use Rattle.std.specs.Prelude.{ℕ, ◌+◌, ◌≤◌, ◌≡◌, ◌↔◌, List, length, Ok}
use Rattle.dsk_fields.specs.Fields.{info_size, track_size, block_of, data_size, data_at}
use Rattle.dsk.specs.Questions.{sector_question}
use Rattle.dsk_check.specs.Validity.{Valid}
use Rattle.dsk.specs.Answers.{validate_answer, data_part, data_start}

-- DK-8: an image validates exactly if it obeys.
abbrev pub AcceptsExactly : Type 0
AcceptsExactly = (b : List ℕ) → (validate_answer b ≡ Ok tt) ↔ Valid b

-- DK-7, DK-15: the part handed out for a sector that is not refused starts where its data do; they lie in its block behind the Track Information
-- Block, and the block in the image; so the part has the whole size of the block's code.
pub record DataHolds (b : List ℕ) (t s k : ℕ) : Type 0 where
  pub start : data_start b t s k ≡ data_at b (block_of b t s) k
  pub behind : block_of b t s + info_size ≤ data_at b (block_of b t s) k
  pub inside : data_at b (block_of b t s) k + data_size b (block_of b t s) ≤ block_of b t s + track_size b
  pub within : block_of b t s + track_size b ≤ length b
  pub whole : length (data_part b t s k) ≡ data_size b (block_of b t s)

-- DK-15: so it is with every sector of every image.
abbrev pub DataWhole : Type 0
DataWhole = (b : List ℕ) (t s k : ℕ) → (sector_question b t s k).number ≡ 0 → DataHolds b t s k
