-- What the definitions of the boundary are proved to mean for a DSK image. The proofs stand in proofs/.
use Rattle.std.specs.Prelude.{ℕ, ◌+◌, ◌*◌, ◌≡◌, List}
use Rattle.octets.specs.Numbers.{Octets}
use Rattle.refusals.specs.Refusals.{Fault}
use Rattle.boundary.specs.Boundary.{packed}
use Rattle.dsk_check.specs.Faults.{dsk_fault}
use Rattle.dsk.specs.Questions.{block_question, sector_question}
use Rattle.dsk_layout.specs.declared.Layout.{Layout}
use Rattle.dsk_write.specs.Writing.{write_fault}

-- C-2: the code of a refusal is its number + 256 x its position.
abbrev pub Whole : Fault → Type 0
Whole f = packed f.number f.position ≡ f.number + 256 * f.position

-- C-2: no refusal of a call on a DSK image is cut: of validating and the geometry, of a block, of a sector. Each answers by its question, and
-- 15, which comes last, has position 0.
pub record WholeCodes (b : List ℕ) (t s k : ℕ) : Type 0 where
  pub image : Whole (dsk_fault b)
  pub block : Whole (block_question b t s)
  pub sector : Whole (sector_question b t s k)

-- C-2: so it is with every image and every argument.
abbrev pub Uncut : Type 0
Uncut = (b : List ℕ) → Octets b → (t s k : ℕ) → WholeCodes b t s k

-- C-2: nor is a refusal of writing, whatever is to be written.
abbrev pub WriteUncut : Type 0
WriteUncut = (c : List ℕ) (l : Layout) (d : List ℕ) (places : ℕ) → Whole (write_fault c l d places)
