-- The loop's invariant: n intervals are written, the intervals from word i on, with what is pending there, are still to be written, and so are the
-- numbers of the closing words from there; the open time from there is that of the whole flux.
use mathlib.Core.Path.{◌≡◌}
use Prim.Native.Nat.{◌*◌, ◌≤◌}
use lib.ListN.{drop}
use Rattle.flux.specs.Coding.{words_of}
use Rattle.flux.specs.Reading.{zero_ticks, intervals, open_time, closing_numbers}
use Rattle.flux.proofs.Wrote.{Wrote}
use Rattle.flux.proofs.Beside.{Beside}
use Rattle.flux.proofs.fill.Given as goal

abbrev pub invariant-loop-i : goal.invariant-loop-i
invariant-loop-i l = record {
  bound : l.pending ≤ zero_ticks * l.i;
  rest : open_time l.pending (drop l.i (words_of l.flux)) ≡ open_time 0 (words_of l.flux);
  first : Wrote l.fn.times l.times l.n (intervals l.pending (drop l.i (words_of l.flux))) (intervals 0 (words_of l.flux));
  second : Beside l.fn.closings l.closings l.n (closing_numbers l.i (drop l.i (words_of l.flux))) (closing_numbers 0 (words_of l.flux));
}
