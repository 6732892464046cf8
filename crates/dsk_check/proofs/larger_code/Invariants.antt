-- The loop's invariant: a larger code from sector k on is one of the first n. After it fewer than four sectors are left.
use mathlib.Core.Path.{◌≡◌}
use Prim.Native.Nat.{◌-◌, ◌≤◌}
use Rattle.refusals.specs.Search.{any_from}
use Rattle.dsk_check.specs.Faults.{larger_code}
use Rattle.dsk_check.proofs.larger_code.Given as goal

abbrev pub invariant-loop-k : goal.invariant-loop-k
invariant-loop-k l = (l.k ≤ l.n) × (any_from (larger_code l.info 0) l.k (l.n - l.k) ≡ any_from (larger_code l.info 0) 0 l.n)

abbrev pub decreases-loop-k : goal.decreases-loop-k
decreases-loop-k l = l.n - l.k
