-- The loop's invariant: every time before i can be expressed, and the count is that of their words, or above what there is room for if all the words
-- are.
use mathlib.Core.Path.{◌≡◌}
use Prim.Native.Nat.{◌+◌, ◌≤◌, ◌<◌}
use lib.ListN.{length, drop}
use Rattle.flux.specs.Writing.{words_for, first_inexpressible}
use Rattle.flux.proofs.measure.Given as goal

abbrev pub invariant-loop-i : goal.invariant-loop-i
invariant-loop-i l = record {
  first : first_inexpressible l.times ≡ l.i + first_inexpressible (drop l.i l.times);
  exact : l.words ≤ l.most → length (words_for l.times) ≡ l.words + length (words_for (drop l.i l.times));
  above : l.most < l.words → l.most < length (words_for l.times);
  bound : l.words ≤ l.most + 65_536;
}
