-- A number and a position within their limits are packed as they are.
use native.Mathlib.Omega.{arith}
use Rattle.boundary.specs.Theorems.{Exact}

pub exact : Exact
exact number position h k = omega arith
