-- Storing the values from i on makes what is to be made; in the end all are stored.
use native.Mathlib.Omega.{arith}
use Rattle.copies.proofs.CopyLaws.{copy_start, copy_next, copied_all}
use Rattle.copies.proofs.copy.Goals as goal

pub loop-i-init : goal.loop-i-init
loop-i-init g c =
    let a = c.args in
    copy_start a.out.now a.values.now a.at (omega arith)

pub loop-i-preserved : goal.loop-i-preserved
loop-i-preserved g c = rw c.index-values-i.is (copy_next _ c.loop-i.invariant c.loop-i-test.true)

pub shape_of-out : goal.shape_of-out
shape_of-out g c = c.loop-i.invariant.same

pub returns : goal.returns
returns g c =
    let a = c.args in
    let all = copied_all a.out.now a.values.now c.loop-i.invariant (omega arith) in
    record { value = all.0; out_after = all.1 }
