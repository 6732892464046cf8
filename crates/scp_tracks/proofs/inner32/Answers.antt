-- The number is that of its four bytes.
use Prim.Native.Nat.{◌+◌}
use mathlib.Core.Path.{refl}
use native.Mathlib.Omega.{arith}
use Rattle.octets.proofs.Numbers.{le_four}
use Rattle.scp_tracks.proofs.inner32.Goals as goal

pub returns : goal.returns
returns c =
    let a = c.args in
    omega (arith, c.from_le_bytes.ensures, le_four a.image.now a.at (a.at + 1) (a.at + 2) (a.at + 3) refl refl refl)
