-- A word counts just where it is not zero, and where no word is left, all are counted.
use mathlib.Core.Bool.{not}
use native.Mathlib.Omega.{arith}
use lib.Dec.{eqb}
use Rattle.flux.proofs.WordLaws.{at_most_one, word_read, no_more, closing_more, closing_end}
use Rattle.flux.proofs.count_closing.Goals as goal

pub loop-pair-preserved : goal.loop-pair-preserved
loop-pair-preserved c =
    let more = closing_more (word_read _ _ c.as_chunks.ensures.front c.loop-pair-test.true c.from_be_bytes.ensures) in
    let one = at_most_one (not (eqb c.from_be_bytes.result 0)) in
    record { few = omega arith; count = omega arith }

pub returns : goal.returns
returns c =
    let none = closing_end _ _ (no_more _ _ c.as_chunks.ensures.front c.loop-pair-test.false) in
    omega arith
