-- No refusal of a call on a DSK image, or of writing one, is cut: each number is below 256, and each position 0 or the index of a block,
-- below 65,536.
use Prim.Native.Nat.{ℕ, ◌<◌}
use mathlib.Core.List.{List}
use native.Mathlib.Omega.{arith}
use Rattle.octets.specs.Numbers.{Octets}
use Rattle.refusals.specs.Refusals.{Fault, none}
use Rattle.boundary.proofs.ExactCodes.{exact}
use Rattle.boundary.proofs.SmallCodes.{Small, small_none, small_first, small_at, small_if, small_from}
use Rattle.dsk_fields.specs.Fields.{tracks, sides, block_index}
use Rattle.dsk_header.specs.HeaderFault.{head_fault}
use Rattle.dsk_check.specs.Faults.{block_fault_at, block_fault, track_fault, blocks_fault, dsk_fault}
use Rattle.dsk_fields.proofs.Strides.{bytes_product}
use Rattle.dsk.specs.Questions.{block_then}
use Rattle.dsk_write.specs.Writing.{write_fault}
use Rattle.dsk_c.specs.Theorems.{Whole, Uncut, WriteUncut}

module _ (b : List ℕ) (octets : Octets b) where
  index_small : (t s : ℕ) → t < tracks b → s < sides b → block_index b t s < 65_536
  index_small t s h k =
      let T = octets 0x30 in
      let S = octets 0x31 in
      let track : t < 256 = omega arith in
      let p = bytes_product track S in
      omega arith

  block_small : (t s : ℕ) → t < tracks b → s < sides b → Small (block_fault b t s)
  unfolding block_fault_at
  block_small t s h k =
      let i = index_small t s h k in
      small_at _ _ 33 (block_index b t s) (omega arith) i
      (small_at _ _ 34 (block_index b t s) (omega arith) i
      (small_at _ _ 35 (block_index b t s) (omega arith) i
      small_none))

  head_small : Small (head_fault b)
  unfolding head_fault
  head_small =
      small_if _ _ 30 (omega arith)
      (small_if _ _ 32 (omega arith)
      (small_if _ _ 31 (omega arith)
      (small_if _ _ 32 (omega arith)
      small_none)))

  image_small : Small (dsk_fault b)
  unfolding dsk_fault
  image_small =
      small_first (head_fault b) (blocks_fault b) head_small
      (small_from (track_fault b) 0 (tracks b) (λ t a z. small_from (block_fault b t) 0 (sides b) (λ s c y.
      block_small t s (omega arith) (omega arith))))

  asked_small : (t s : ℕ) (rest : Fault) → Small rest → Small (block_then b t s rest)
  unfolding block_then
  asked_small t s rest h = small_first (dsk_fault b) _ image_small (small_if _ _ 13 (omega arith) h)

whole : (f : Fault) → Small f → Whole f
whole f h = exact f.number f.position h.0 h.1

pub uncut : Uncut
uncut b octets t s k =
    record {
      image = whole _ (image_small b octets);
      block = whole _ (asked_small b octets t s none small_none);
      sector = whole _ (asked_small b octets t s _ (small_if _ none 14 (omega arith) small_none));
    }

pub write_uncut : WriteUncut
unfolding write_fault
write_uncut c l d places = whole _ (small_if _ _ 41 (omega arith) (small_if _ none 15 (omega arith) small_none))
