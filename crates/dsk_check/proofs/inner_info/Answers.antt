-- The first bytes of a part of just as many are the part.
use Prim.Native.Nat.{ℕ, ◌+◌, ◌-◌}
use mathlib.Core.Path.{◌≡◌, ap, ◌∙◌}
use native.Mathlib.Omega.{arith}
use lib.ListN.{take, drop}
use lib.Seq.{take_all}
use Rattle.std.proofs.lemmas.List.{length-take}
use Rattle.dsk_check.proofs.inner_info.Goals as goal

pub returns : goal.returns
returns c =
    let a = c.args in
    let rest = drop a.at a.image.now in
    let size : a.at + 256 - a.at ≡ 256 = omega arith in
    let part = take (a.at + 256 - a.at) rest in
    (rw c.unwrap.ensures at c.first_chunk.ensures.cases).same
    ∙ take_all 256 part (omega (arith, length-take (a.at + 256 - a.at) rest)) ∙ ap (λ (n : ℕ). take n rest) size
