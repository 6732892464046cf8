-- Where all tests so far are passed, the bytes so far are ASCII.
use Rattle.std.proofs.Common.{◌≡◌, true, take}
use Rattle.std.specs.Str.{IsAscii}
use Rattle.utf8.proofs.is_ascii_block.Given as goal

abbrev pub invariant-loop-b : goal.invariant-loop-b
invariant-loop-b l = l.ascii ≡ true → IsAscii (take l.b-index l.block)
