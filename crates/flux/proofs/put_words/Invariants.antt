-- The loop's invariant: the bytes of the times before the index are written, and those of the times from there on are still to be written.
use lib.ListN.{drop}
use Rattle.flux.specs.Coding.{bytes_of}
use Rattle.flux.specs.Writing.{words_for}
use Rattle.flux.proofs.Wrote.{Wrote}
use Rattle.flux.proofs.put_words.Given as goal

abbrev pub invariant-loop-time : goal.invariant-loop-time
invariant-loop-time l = Wrote l.fn.flux l.flux l.at (bytes_of (words_for (drop l.time-index l.times))) (bytes_of (words_for l.times))
