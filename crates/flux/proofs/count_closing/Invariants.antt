-- The loop's invariant: what is counted, and the closing words from word i on, make up all.
use mathlib.Core.Path.{◌≡◌}
use Prim.Native.Nat.{◌+◌, ◌≤◌}
use lib.ListN.{drop}
use Rattle.flux.specs.Coding.{words_of}
use Rattle.flux.specs.Reading.{closing_words}
use Rattle.flux.proofs.count_closing.Given as goal

abbrev pub invariant-loop-pair : goal.invariant-loop-pair
invariant-loop-pair l = record { few : l.n ≤ l.pair-index; count : l.n + closing_words (drop l.pair-index (words_of l.flux)) ≡ closing_words (words_of l.flux) }
