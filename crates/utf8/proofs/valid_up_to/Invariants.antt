-- The loop's invariant: whole sequences stand before the place.
use Rattle.std.proofs.Common.{◌-◌, length}
use Rattle.utf8.specs.Reading.{Passed}
use Rattle.utf8.proofs.valid_up_to.Given as goal

abbrev pub invariant-loop-at : goal.invariant-loop-at
invariant-loop-at l = Passed l.text 0 l.at

abbrev pub decreases-loop-at : goal.decreases-loop-at
decreases-loop-at l = length l.text - l.at
