-- The characters of the name are compared, four at a time.
use Prim.Native.Nat.{ℕ, ◌≤◌}
use mathlib.Core.Path.{◌≡◌, ap, ap₂, ◌∙◌}
use mathlib.Core.List.{List, ◌++◌}
use mathlib.Core.Bool.{◌&&◌}
use native.Mathlib.Omega.{arith}
use lib.ListN.{length}
use lib.Dec.{eqb}
use Rattle.octets.specs.Numbers.{Octets, le_at, le_bytes}
use Rattle.dsk_fields.specs.Fields.{block_text, says_at}
use Rattle.dsk_fields.proofs.Texts.{number_then, number_says}
use Rattle.dsk_check.proofs.named.Goals as goal

-- the first twelve bytes, four at a time
name_said : (b : List ℕ) → Octets b → 12 ≤ length b
    → eqb (le_at 4 b 0) 0x6361_7254 && (eqb (le_at 4 b 4) 0x6E49_2D6B && eqb (le_at 4 b 8) 0x0A0D_6F66) ≡ says_at b 0 block_text
unfolding le_bytes
name_said b octets h =
    let last = number_says 4 0x0A0D_6F66 b 8 octets (omega arith) (omega arith) in
    let second = number_then 0x6E49_2D6B b 4 (le_bytes 4 0x0A0D_6F66) octets (omega arith) (omega arith) last in
    number_then 0x6361_7254 b 0 (le_bytes 4 0x6E49_2D6B ++ le_bytes 4 0x0A0D_6F66) octets (omega arith) (omega arith) second

pub returns : goal.returns
returns c =
    let b = c.args.info.now in
    ap₂ ◌&&◌ (ap (λ (v : ℕ). eqb v 0x6361_7254) c.le32.ensures)
    (ap₂ ◌&&◌ (ap (λ (v : ℕ). eqb v 0x6E49_2D6B) c.le32-2.ensures) (ap (λ (v : ℕ). eqb v 0x0A0D_6F66) c.le32-3.ensures))
    ∙ name_said b c.fits-info (let size = c.told-info in omega arith)
