-- What the definitions of the boundary are proved to mean. The proofs stand in proofs/.
use Rattle.std.specs.Prelude.{ℕ, ◌+◌, ◌*◌, ◌≡◌, List}
use Rattle.scp.specs.Answers.{Answer, refused, none, numbers, footer, speeds, bytes}
use Rattle.scp_book.specs.Book.{Call, answer}
use Rattle.boundary.specs.Boundary.{packed}

-- C-2: if it is a refusal, its code is its number + 256 x its position.
abbrev pub Whole : Answer → Type 0
Whole (refused number position) = packed number position ≡ number + 256 * position
Whole none = Unit {0}
Whole (numbers vs) = Unit {0}
Whole (footer offsets times versions) = Unit {0}
Whole (speeds xs) = Unit {0}
Whole (bytes start b) = Unit {0}

-- C-2: no refusal of a call of the book is cut.
abbrev pub Uncut : Type 0
Uncut = (b : List ℕ) (c : Call) → Whole (answer b c)
