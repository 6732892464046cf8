-- The part holds a zero exactly if one of its indices does.
use Prim.Native.Nat.{ℕ, ◌+◌, ◌-◌}
use mathlib.Core.Path.{◌≡◌, ap, ◌∙◌}
use native.Mathlib.Omega.{arith}
use lib.Dec.{eqb}
use lib.ListN.{take, drop}
use Rattle.std.specs.List.{list_any}
use Rattle.scp_footer.proofs.Strings.{any_zero}
use Rattle.scp_footer.proofs.zero_within.Goals as goal

pub returns : goal.returns
returns c =
    let a = c.args in
    let size : a.start + a.n - a.start ≡ a.n = omega arith in
    c.contains.ensures.value
    ∙ ap (λ (k : ℕ). list_any (λ y. eqb y 0) (take k (drop a.start a.image.now))) size
    ∙ any_zero a.image.now a.start a.n (omega arith)
