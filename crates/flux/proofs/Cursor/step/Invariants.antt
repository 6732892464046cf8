-- A step answers what the definition gives. The loop's invariant: the definition, from word i on with what is pending there,
-- gives what it gives from the cursor on; what is pending is bounded, so that no sum wraps.
use mathlib.Core.Path.{◌≡◌}
use Prim.Native.Nat.{◌*◌, ◌≤◌}
use lib.ListN.{length, drop}
use Rattle.flux.specs.Coding.{words_of, flux_limit}
use Rattle.flux.specs.Reading.{zero_ticks}
use Rattle.flux.specs.Answers.{step_from}
use Rattle.flux.proofs.Cursor.step.Given as goal

abbrev pub invariant-loop-i : goal.invariant-loop-i
invariant-loop-i l = (length l.flux ≤ flux_limit)
    × (l.ticks ≤ zero_ticks * l.i)
    × (step_from l.self.word l.ticks l.i (drop l.i (words_of l.flux)) ≡ step_from l.self.word 0 l.self.word (drop l.self.word (words_of l.flux)))
