-- The bytes put so far are those from the offset on, and there is a place for each.
use Rattle.std.proofs.Common.{◌≡◌, ◌+◌, ◌<◌, ℕ, length, slice_index}
use Rattle.octets.specs.Numbers.{byte_at}
use Rattle.octets.proofs.bytes_near_end.Given as goal

abbrev pub invariant-loop-k : goal.invariant-loop-k
invariant-loop-k g l = (length l.found ≡ g.row.N) × ((j : ℕ) → j < l.k → slice_index l.found j ≡ byte_at l.bytes (l.at + j))
