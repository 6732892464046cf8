-- The stores one behind the other are one store of the whole block.
use Prim.Native.Nat.{ℕ, ◌/◌, ◌%◌}
use mathlib.Core.Path.{ap, ◌∙◌}
use mathlib.Core.List.{List}
use lib.ListN.{get_or}
use Rattle.dsk_write.proofs.Puts.{header_put}
use Rattle.dsk_write.proofs.put_header.Goals as goal

pub returns : goal.returns
returns c =
    let a = c.args in
    let size = c.track_size.ensures.0 in
    let low = ap (λ (l : List ℕ). get_or l 0 0) c.to_le_bytes.ensures ∙ ap (λ (n : ℕ). n % 256) size in
    let high = ap (λ (l : List ℕ). get_or l 1 0) c.to_le_bytes.ensures ∙ ap (λ (n : ℕ). n / 256 % 256) size in
    header_put a.image.now c.requires.1 a.creator.now a.layout c.requires.0 low high
    c.copy.ensures.out_after c.copy-2.ensures.out_after c.copy-3.ensures.out_after c.zeros.ensures.out_after
