-- The loop's invariant: the calls from row i on, made on the image as it stands, end in the final bytes, and their rows are still to be
-- written.
use mathlib.Core.Path.{refl, sym, ◌∙◌}
use Prim.Native.Nat.{◌/◌}
use native.Mathlib.Omega.{arith}
use lib.ListN.{length}
use borrow.Author.Rules.{rules}
use Rattle.flux.proofs.Wrote.{retell, moved, whole_is}
use Rattle.scp_book.specs.Book as book
use Rattle.scp_book.specs.Book.{final_bytes}
use Rattle.sequence.specs.Calls.{call_size, call_at}
use Rattle.copies.proofs.CopyLaws.{copy_fits}
use Rattle.sequence.proofs.Running.{room, row_fits, final_start, final_next, final_end, wrote_start, wrote_next, rows_end}
use Rattle.sequence.proofs.run_calls.Goals as goal

pub loop-i-init : goal.loop-i-init
loop-i-init c =
    let a = c.args in
    (omega arith, c.requires, refl, final_start a.calls.now a.words.now _ _, wrote_start a.calls.now a.words.now _ _ _)

pub loop-i-preserved : goal.loop-i-preserved
loop-i-preserved c =
    let l = c.loop-i in
    let a = c.args in
    let calls = a.calls.now in
    let words = a.words.now in
    let below = c.loop-i-test.true in
    let made = c.call_row-row.ensures in
    let whole = room calls words a.image.now a.answers.now l.invariant.1 in
    let fits = row_fits (book.answer l.image (call_at calls words l.i)) l.answers a.answers.now l.i (length calls / call_size) made.value l.invariant.1 l.invariant.4.same below in (
      search rules,
      l.invariant.1,
      omega arith,
      final_next calls words _ _ _ l.i _ below made.image_after l.invariant.3,
      moved (sym (c.copy.ensures.out_after ∙ copy_fits l.answers c.call_row-row.result _ fits)) refl
          (wrote_next calls words _ _ _ _ _ _ l.i _ below whole made.image_after made.value l.invariant.4),
    )

pub shape_of-image : goal.shape_of-image
shape_of-image c =
    c.loop-i.invariant.2

pub shape_of-answers : goal.shape_of-answers
shape_of-answers c =
    c.loop-i.invariant.4.same

pub returns : goal.returns
returns c =
    let l = c.loop-i in
    let a = c.args in
    let calls = a.calls.now in
    let words = a.words.now in
    let past = c.loop-i-test.false in record {
      image_after = final_end calls words _ _ l.i _ past l.invariant.3;
      answers_after = whole_is (retell (rows_end calls words _ l.i _ past) l.invariant.4);
    }
