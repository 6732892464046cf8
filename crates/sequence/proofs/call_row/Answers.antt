-- The kind picks a rewrite or a question, and its numbers are those of the row.
use mathlib.Core.Path.{sym, ap, ◌∙◌}
use Rattle.scp_book.specs.Book.{Call, answer, after}
use Rattle.scp_rows.specs.Rows.{row_of}
use Rattle.sequence.proofs.CallLaws.{call_rewrite, call_question, rewrite_same, question_same}
use Rattle.sequence.proofs.call_row.Goals as goal

pub returns-then-kind-eq-REWRITE : goal.returns-then-kind-eq-REWRITE
unfolding answer after
returns-then-kind-eq-REWRITE c =
    let a = c.args in
    let b = a.image.now in
    let call = call_rewrite a.calls.now a.words.now a.i c.if-kind-eq-REWRITE.true in
    let same = rewrite_same _ c.from-edition.ensures c.cap-track.ensures c.cap-revolution.ensures c.part_of-part.ensures.result_value in record {
      value = c.rewrite_row.ensures.value ∙ ap (λ (q : Call). row_of (answer b q)) (same ∙ sym call);
      image_after = c.rewrite_row.ensures.image_after ∙ ap (after b) (same ∙ sym call);
    }

pub returns : goal.returns
unfolding answer after
returns c =
    let a = c.args in
    let b = a.image.now in
    let call = call_question a.calls.now a.words.now a.i c.if-kind-eq-REWRITE.false in
    let same = question_same _ c.from-edition.ensures c.cap-track.ensures c.cap-revolution.ensures in record {
      value = c.question_row.ensures ∙ ap (λ (q : Call). row_of (answer b q)) (same ∙ sym call);
      image_after = sym (ap (after b) call);
    }
