-- The words behind `closed` are zero; and what is counted up to a pair, and what the definitions give from there on, make up all. Each number is
-- bounded by the words, so that no sum wraps.
use mathlib.Core.Path.{◌≡◌}
use Prim.Native.Nat.{◌+◌, ◌-◌, ◌*◌, ◌≤◌}
use lib.ListN.{length, drop}
use Rattle.flux.specs.Coding.{words_of, flux_limit}
use Rattle.flux.specs.Reading.{zero_ticks, closing_words, total_ticks}
use Rattle.flux_summary.proofs.Trailing.{OpenFrom}
use Rattle.flux_summary.proofs.summarize.Given as goal

abbrev pub invariant-loop-closed : goal.invariant-loop-closed
invariant-loop-closed l = OpenFrom (words_of l.flux) l.closed

abbrev pub decreases-loop-closed : goal.decreases-loop-closed
decreases-loop-closed l = l.closed

abbrev pub invariant-loop-pair : goal.invariant-loop-pair
invariant-loop-pair l = record {
  limit : length l.flux ≤ flux_limit;
  few : l.intervals ≤ l.pair-index;
  small : l.ticks ≤ 65_535 * l.pair-index;
  count : l.intervals + closing_words (drop l.pair-index (words_of l.flux)) ≡ closing_words (words_of l.flux);
  sum : l.ticks + zero_ticks * (l.pair-index - l.intervals) + total_ticks (drop l.pair-index (words_of l.flux)) ≡ total_ticks (words_of l.flux);
}
