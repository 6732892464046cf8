-- The total so far is the sum of the blocks so far, modulo 2^32.
use Rattle.std.proofs.Common.{◌≡◌, ◌*◌, ◌%◌, take}
use Rattle.std.specs.List.{sum}
use Rattle.octets.proofs.byte_sum.Given as goal

abbrev pub invariant-loop-block : goal.invariant-loop-block
invariant-loop-block l = l.total ≡ sum (take (l.block-index * 256) l.bytes) % 4_294_967_296
