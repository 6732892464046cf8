-- What is wrong with an information block by itself is what is wrong with it in the image.
use Prim.Native.Nat.{ℕ, ◌+◌, ◌*◌, ◌<◌}
use mathlib.Core.Path.{◌≡◌, refl, ap, ap₂, ◌∙◌}
use mathlib.Core.List.{List}
use mathlib.Core.Bool.{Bool, true, false, ◌||◌}
use native.Mathlib.Omega.{arith}
use lib.ListN.{take, drop}
use lib.Dec.{ltb}
use borrow.Author.Tests.{ltb-false}
use Rattle.refusals.specs.Search.{any_from}
use Rattle.refusals.proofs.Finding.{same_from}
use Rattle.octets.specs.Numbers.{byte_at}
use Rattle.dsk_fields.specs.Fields.{block_text, info_size, size_code, sectors, data_size, sector_size}
use Rattle.dsk_fields.proofs.Texts.{begins_take}
use Rattle.dsk_fields.proofs.Parts.{info_byte}
use Rattle.dsk_check.specs.Faults.{bad_block, larger_code, bad_sectors}

module _ (b : List ℕ) (e : ℕ) where
  abbrev pub own : List ℕ
  own = take info_size (drop e b)

  pub own_block : (t s : ℕ) → bad_block own 0 t s ≡ bad_block b e t s
  unfolding bad_block
  own_block t s =
      let name = begins_take block_text (drop e b) 256 (omega arith) in
      let track = info_byte b e 0x10 (omega arith) in
      let side = info_byte b e 0x11 (omega arith) in
      cc

  code : size_code own 0 ≡ size_code b e
  code = info_byte b e 0x14 (omega arith)

  count : sectors own 0 ≡ sectors b e
  count = info_byte b e 0x15 (omega arith)

  larger : (k : ℕ) → k < 29 → larger_code own 0 k ≡ larger_code b e k
  larger k h =
      let at : e + (24 + 8 * k + 3) ≡ e + 24 + 8 * k + 3 = omega arith in
      ap₂ ltb code (info_byte b e (24 + 8 * k + 3) (omega arith) ∙ ap (byte_at b) at)

  pub own_sectors : bad_sectors own 0 ≡ bad_sectors b e
  unfolding bad_sectors
  own_sectors =
      ap₂ (λ (n c : ℕ). ltb 29 n || (ltb 6 c || any_from (larger_code own 0) 0 n)) count code ∙ by (ltb 29 (sectors b e)) refl
    where
      by : (t : Bool) → ltb 29 (sectors b e) ≡ t
          → t || (ltb 6 (size_code b e) || any_from (larger_code own 0) 0 (sectors b e))
          ≡ t || (ltb 6 (size_code b e) || any_from (larger_code b e) 0 (sectors b e))
      by true q = refl
      by false q =
          let few = ltb-false 29 (sectors b e) q in
          ap (λ (x : Bool). ltb 6 (size_code b e) || x)
          (same_from (larger_code own 0) (larger_code b e) 0 (sectors b e) (λ j a z. larger j (omega arith)))

  pub own_data : (size : ℕ) → ltb size (info_size + sectors own 0 * data_size own 0) ≡ ltb size (info_size + sectors b e * data_size b e)
  own_data size = ap₂ (λ (n c : ℕ). ltb size (info_size + n * sector_size c)) count code
