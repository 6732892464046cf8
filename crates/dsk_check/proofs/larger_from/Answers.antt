-- The loop's invariant: a larger code from sector k on is one from the first on.
use Prim.Native.Nat.{◌<◌, ◌≤◌}
use native.Mathlib.Omega.{arith}
use borrow.Author.Rules.{rules}
use borrow.Author.Tests.{lt-ltb, le-ltb}
use Rattle.refusals.proofs.Loops.{any_here, any_next, any_end}
use Rattle.dsk_fields.specs.Fields.{size_code, entry_code}
use Rattle.dsk_check.proofs.larger_from.Goals as goal

pub returns-then-code-entry_code : goal.returns-then-code-entry_code
returns-then-code-entry_code c =
    let a = c.args in
    let l = c.loop-k in
    let larger : size_code a.info.now 0 < entry_code a.info.now 0 l.k = omega arith in
    any_here _ l.invariant (search rules) (lt-ltb _ _ larger)

pub loop-k-preserved : goal.loop-k-preserved
loop-k-preserved c =
    let a = c.args in
    let l = c.loop-k in
    let least : entry_code a.info.now 0 l.k ≤ size_code a.info.now 0 = omega arith in
    any_next _ l.invariant (search rules) (le-ltb _ _ least)

pub returns : goal.returns
returns c = any_end _ c.loop-k.invariant (search rules)
