-- The stores one behind the other are one store of the whole block.
use Prim.Native.Nat.{ℕ, ◌+◌, ◌*◌}
use mathlib.Core.Path.{ap}
use Rattle.dsk_write.proofs.Puts.{info_put}
use Rattle.dsk_write.proofs.put_info.Goals as goal

pub returns : goal.returns
returns c =
    let a = c.args in
    info_put a.image.now a.at c.requires.0 a.layout a.track a.side c.requires.1 (ap (λ (n : ℕ). 24 + 8 * n) c.from.ensures)
    c.copy.ensures.out_after c.copy-2.ensures.out_after c.put_list.ensures c.zeros.ensures.out_after
