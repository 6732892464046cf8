-- A step answers what the definition gives: at a word that is not zero, at a zero, and where no word is left.
use mathlib.Core.Path.{sym, ◌∙◌}
use native.Mathlib.Omega.{arith}
use Rattle.flux.proofs.WordLaws.{word_read, no_more, step_zero, step_close, step_end}
use Rattle.flux.proofs.Cursor.step.Goals as goal

pub returns-then-word-ne0 : goal.returns-then-word-ne0
returns-then-word-ne0 c =
    let all = c.as_chunks.ensures in
    let at = word_read _ _ all.front c.loop-i-test.true c.from_be_bytes-word.ensures in
    simp (sym c.bad_flux_size.ensures ∙ c.if-bad_flux_size.false, c.from.ensures)
    (sym (step_close at c.if-word-ne0.true _ _) ∙ c.loop-i.invariant.2)

pub loop-i-preserved : goal.loop-i-preserved
loop-i-preserved c =
    let l = c.loop-i in
    let all = c.as_chunks.ensures in
    let at = word_read _ _ all.front c.loop-i-test.true c.from_be_bytes-word.ensures in
    (l.invariant.0, omega arith, sym (step_zero at c.if-word-ne0.false _ _) ∙ l.invariant.2)

pub returns : goal.returns
returns c =
    let all = c.as_chunks.ensures in
    simp (sym c.bad_flux_size.ensures ∙ c.if-bad_flux_size.false)
    (sym (step_end _ _ (no_more _ _ all.front c.loop-i-test.false) _ _) ∙ c.loop-i.invariant.2)
