-- The loop's invariant: a larger code from sector k on is one from the first on.
use mathlib.Core.Path.{◌≡◌}
use Prim.Native.Nat.{◌-◌}
use Rattle.refusals.specs.Search.{any_from}
use Rattle.dsk_check.specs.Faults.{larger_code}
use Rattle.dsk_check.proofs.larger_from.Given as goal

abbrev pub invariant-loop-k : goal.invariant-loop-k
invariant-loop-k l = any_from (larger_code l.info 0) l.k (l.n - l.k) ≡ any_from (larger_code l.info 0) l.first (l.n - l.first)
