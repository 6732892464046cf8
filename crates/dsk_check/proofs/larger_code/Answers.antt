-- The loop's invariant: a larger code from sector k on is one of the first n. After it fewer than four sectors are left.
use mathlib.Core.Path.{◌≡◌, ap, ◌∙◌}
use mathlib.Core.Bool.{Bool, false}
use Prim.Native.Nat.{ℕ, ◌+◌, ◌-◌, ◌<◌, ◌≤◌}
use native.Mathlib.Nat.{sub-zero}
use native.Mathlib.Omega.{arith}
use borrow.Author.Rules.{rules}
use borrow.Author.Tests.{lt-ltb, le-ltb}
use Rattle.refusals.specs.Search.{any_from}
use Rattle.refusals.proofs.Loops.{any_here, any_next}
use Rattle.dsk_fields.specs.Fields.{size_code, entry_code}
use Rattle.dsk_check.specs.Faults.{larger_code}
use Rattle.dsk_check.proofs.larger_code.Goals as goal

-- the index after k + j, where the one at k + j does not pass
next_at : (p : ℕ → Bool) (k j : ℕ) {n : ℕ} {r : Bool} → any_from p (k + j) (n - (k + j)) ≡ r → k + j < n → p (k + j) ≡ false
    → any_from p (k + (j + 1)) (n - (k + (j + 1))) ≡ r
next_at p k j inv h t = let e : k + (j + 1) ≡ k + j + 1 = omega arith in rw e (any_next p inv h t)

pub loop-k-init : goal.loop-k-init
loop-k-init c =
    let a = c.args in
    (search rules, ap (any_from (larger_code a.info.now 0) 0) (sub-zero a.n))

pub returns-then-code-entry_code : goal.returns-then-code-entry_code
returns-then-code-entry_code c =
    let a = c.args in
    let l = c.loop-k in
    let larger : size_code a.info.now 0 < entry_code a.info.now 0 l.k = omega arith in
    any_here (larger_code a.info.now 0) l.invariant.1 (search rules) (lt-ltb _ _ larger)

pub returns-then-code-entry_code-2 : goal.returns-then-code-entry_code-2
returns-then-code-entry_code-2 c =
    let a = c.args in
    let l = c.loop-k in
    let least0 : entry_code a.info.now 0 l.k ≤ size_code a.info.now 0 = omega arith in
    let larger : size_code a.info.now 0 < entry_code a.info.now 0 (l.k + 1) = omega arith in
    let past1 = any_next (larger_code a.info.now 0) l.invariant.1 (search rules) (le-ltb _ _ least0) in
    any_here (larger_code a.info.now 0) past1 (search rules) (lt-ltb _ _ larger)

pub returns-then-code-entry_code-3 : goal.returns-then-code-entry_code-3
returns-then-code-entry_code-3 c =
    let a = c.args in
    let l = c.loop-k in
    let least0 : entry_code a.info.now 0 l.k ≤ size_code a.info.now 0 = omega arith in
    let least1 : entry_code a.info.now 0 (l.k + 1) ≤ size_code a.info.now 0 = omega arith in
    let larger : size_code a.info.now 0 < entry_code a.info.now 0 (l.k + 2) = omega arith in
    let past1 = any_next (larger_code a.info.now 0) l.invariant.1 (search rules) (le-ltb _ _ least0) in
    let past2 = next_at (larger_code a.info.now 0) l.k 1 past1 (search rules) (le-ltb _ _ least1) in
    any_here (larger_code a.info.now 0) past2 (search rules) (lt-ltb _ _ larger)

pub returns-then-code-entry_code-4 : goal.returns-then-code-entry_code-4
returns-then-code-entry_code-4 c =
    let a = c.args in
    let l = c.loop-k in
    let least0 : entry_code a.info.now 0 l.k ≤ size_code a.info.now 0 = omega arith in
    let least1 : entry_code a.info.now 0 (l.k + 1) ≤ size_code a.info.now 0 = omega arith in
    let least2 : entry_code a.info.now 0 (l.k + 2) ≤ size_code a.info.now 0 = omega arith in
    let larger : size_code a.info.now 0 < entry_code a.info.now 0 (l.k + 3) = omega arith in
    let past1 = any_next (larger_code a.info.now 0) l.invariant.1 (search rules) (le-ltb _ _ least0) in
    let past2 = next_at (larger_code a.info.now 0) l.k 1 past1 (search rules) (le-ltb _ _ least1) in
    let past3 = next_at (larger_code a.info.now 0) l.k 2 past2 (search rules) (le-ltb _ _ least2) in
    any_here (larger_code a.info.now 0) past3 (search rules) (lt-ltb _ _ larger)

pub loop-k-preserved : goal.loop-k-preserved
loop-k-preserved c =
    let a = c.args in
    let l = c.loop-k in
    let least0 : entry_code a.info.now 0 l.k ≤ size_code a.info.now 0 = omega arith in
    let least1 : entry_code a.info.now 0 (l.k + 1) ≤ size_code a.info.now 0 = omega arith in
    let least2 : entry_code a.info.now 0 (l.k + 2) ≤ size_code a.info.now 0 = omega arith in
    let least3 : entry_code a.info.now 0 (l.k + 3) ≤ size_code a.info.now 0 = omega arith in
    let past1 = any_next (larger_code a.info.now 0) l.invariant.1 (search rules) (le-ltb _ _ least0) in
    let past2 = next_at (larger_code a.info.now 0) l.k 1 past1 (search rules) (le-ltb _ _ least1) in
    let past3 = next_at (larger_code a.info.now 0) l.k 2 past2 (search rules) (le-ltb _ _ least2) in
    let past4 = next_at (larger_code a.info.now 0) l.k 3 past3 (search rules) (le-ltb _ _ least3) in
    (search rules, past4)

pub returns : goal.returns
returns c = c.larger_from.ensures ∙ c.loop-k.invariant.1
