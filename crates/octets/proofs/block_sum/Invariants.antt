-- The total so far is the sum of the bytes so far, at most 255 for each.
use Rattle.std.proofs.Common.{◌≡◌, ◌*◌, ◌≤◌, take}
use Rattle.std.specs.List.{sum}
use Rattle.octets.proofs.block_sum.Given as goal

abbrev pub invariant-loop-b : goal.invariant-loop-b
invariant-loop-b l = (l.total ≡ sum (take l.b-index l.block)) × (l.total ≤ 255 * l.b-index)
