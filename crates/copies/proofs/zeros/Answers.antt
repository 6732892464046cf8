-- The part of the buffer is zeros.
use Prim.Native.Nat.{ℕ, ◌+◌}
use mathlib.Core.Path.{sym, ap, ◌∙◌}
use native.Mathlib.Omega.{arith}
use lib.ListN.{replicate, length-replicate}
use borrow.Rule.Slice.PartMut.{mid_len}
use Rattle.copies.proofs.CopyLaws.{copied}
use Rattle.copies.proofs.zeros.Goals as goal

pub returns-clause-out_after : goal.returns-clause-out_after
returns-clause-out_after c =
    let a = c.args in
    let size = length-replicate {A = ℕ} a.count 0 in
    let lent = mid_len a.at (a.at + a.count) a.out.now (omega arith) in
    let zeroed = c.fill.ensures.after (λ y e. e) ∙ ap (λ (n : ℕ). replicate n 0) (lent ∙ omega arith) in
    copied a.out.now (replicate a.count 0) c.fill.new.self a.at a.count (sym size) (omega arith) zeroed
