-- At a zero word what is still to be written stays; at any other its interval is written, and its number where that has a place; and where no word
-- is left, all is written.
use mathlib.Core.Path.{sym, ◌∙◌}
use native.Mathlib.Omega.{arith}
use Rattle.flux.specs.Coding.{words_of}
use Rattle.flux.proofs.WordLaws.{WordAt, word_read, no_more, intervals_zero, intervals_close, intervals_end, open_zero, open_close, open_end, number_zero, number_close, number_end}
use Rattle.flux.proofs.Counting.{as_many}
use Rattle.flux.proofs.Wrote.{retell, below, put, filled, whole_is}
use Rattle.flux.proofs.Beside.{beside_retell, beside_put, beside_past, beside_whole}
use Rattle.flux.proofs.fill.Goals as goal
use Rattle.flux.proofs.fill.Goals.{then-word-eq0, else-word-eq0, then-n-closings, else-n-closings}

pub bounds-times-n : goal.bounds-times-n
bounds-times-n c =
    let at = word_read _ _ c.as_chunks.ensures.front c.loop-i-test.true c.from_be_bytes-word.ensures in
    below c.requires.flux_in_bounds (retell (intervals_close at c.if-word-eq0.false _) c.loop-i.invariant.first)

pub loop-i-preserved : goal.loop-i-preserved
loop-i-preserved c =
    let l = c.loop-i.invariant in
    let at : WordAt (words_of c.args.flux.now) c.loop-i.i c.from_be_bytes-word.result = word_read _ _ c.as_chunks.ensures.front c.loop-i-test.true c.from_be_bytes-word.ensures in
    elim c.if-word-eq0.branch [
      | then-word-eq0 w ↦ rw (w.pending-is, w.n-is, w.times-is, w.closings-is) record {
        bound = omega arith;
        rest = sym (open_zero at w.if-word-eq0.true _) ∙ l.rest;
        first = retell (intervals_zero at w.if-word-eq0.true _) l.first;
        second = beside_retell (number_zero at w.if-word-eq0.true) l.second;
      }
      | else-word-eq0 w ↦
          let next = beside_retell (number_close at w.if-word-eq0.false) l.second in
          rw (w.pending-is, w.n-is, w.times-is, w.closings-is, w.from.ensures) record {
            bound = omega arith;
            rest = sym (open_close at w.if-word-eq0.false _) ∙ l.rest;
            first = put c.requires.flux_in_bounds (retell (intervals_close at w.if-word-eq0.false _) l.first);
            second = elim w.if-n-closings.branch [
              | then-n-closings x ↦ rw x.closings-is (beside_put next x.if-n-closings.true)
              | else-n-closings x ↦ rw x.closings-is (beside_past next x.if-n-closings.false)
            ];
          }
    ]

pub returns : goal.returns
returns c =
    let l = c.loop-i.invariant in
    let end = no_more _ _ c.as_chunks.ensures.front c.loop-i-test.false in
    let all = retell (intervals_end _ _ end _) l.first in
    let n = filled all in
    let m = as_many (words_of c.args.flux.now) in
    let o = sym (open_end _ _ end _) ∙ l.rest in
    record {
      result_value = cc;
      times_after = whole_is all;
      closings_after = beside_whole c.loop-i.auto.closings (n ∙ sym m) (beside_retell (number_end _ _ end) l.second);
    }
