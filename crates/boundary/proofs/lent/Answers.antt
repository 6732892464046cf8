-- Each arm gives what the test picks.
use Prim.Native.Nat.{◌<◌, ◌≤◌}
use native.Mathlib.Omega.{arith}
use borrow.Author.Rules.{rules}
use borrow.Author.Tests.{lt-ltb, le-ltb}
use Rattle.boundary.proofs.lent.Goals as goal

pub returns-then-places-needed : goal.returns-then-places-needed
returns-then-places-needed c =
    let a = c.args in
    let few : a.places < a.needed = omega arith in
    (simp (lt-ltb _ _ few), search rules)

pub returns-else-places-needed : goal.returns-else-places-needed
returns-else-places-needed c =
    let a = c.args in
    let enough : a.needed ≤ a.places = omega arith in
    (simp (le-ltb _ _ enough), search rules)
