-- What the definitions of the boundary are proved to mean. The proofs stand in proofs/.
use Rattle.std.specs.Prelude.{ℕ, ◌+◌, ◌*◌, ◌<◌, ◌≡◌}
use Rattle.boundary.specs.Boundary.{packed}

-- C-2: a number below 256 and a position below 2^56 are packed as they are.
abbrev pub Exact : Type 0
Exact =
    (number position : ℕ) → number < 256 → position < 72_057_594_037_927_936 → packed number position ≡ number + 256 * position
