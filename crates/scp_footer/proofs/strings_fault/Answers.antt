-- The first finding from string j on is the first of all.
use Prim.Native.Nat.{ℕ}
use mathlib.Core.Path.{ap, ◌∙◌}
use Rattle.std.proofs.lemmas.Result.{err_from_is_err_and}
use Rattle.scp_footer.specs.Footer.{string_fault_at}
use Rattle.refusals.proofs.Loops.{found_none}
use Rattle.refusals.proofs.Passing.{found_at, found_past}
use Rattle.scp_footer.proofs.strings_fault.Goals as goal

pub returns-in_err-string_fault_at : goal.returns-in_err-string_fault_at
returns-in_err-string_fault_at c =
    let a = c.args in
    let at_offset = ap (λ (o : ℕ). string_fault_at a.edition a.image.now o c.loop-j.j) c.string_entry-o.ensures in
    let p = err_from_is_err_and c.from_residual.result c.from_residual.ensures.1 in
    rw (p.1, p.2) (found_at _ c.loop-j.invariant c.loop-j-test.true _ (c.in_err-string_fault_at.ensures ∙ at_offset))

pub loop-j-preserved : goal.loop-j-preserved
loop-j-preserved c =
    let a = c.args in
    let at_offset = ap (λ (o : ℕ). string_fault_at a.edition a.image.now o c.loop-j.j) c.string_entry-o.ensures in
    found_past _ c.loop-j.invariant c.loop-j-test.true (c.in_ok-string_fault_at.ensures ∙ at_offset)

pub returns : goal.returns
returns c = found_none _ c.loop-j.invariant c.loop-j-test.false
