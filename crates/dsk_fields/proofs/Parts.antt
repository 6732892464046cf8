-- What an information block says by itself is what the image says at its offset.
use Prim.Native.Nat.{ℕ, ◌+◌, ◌<◌}
use mathlib.Core.Path.{◌≡◌, ◌∙◌}
use mathlib.Core.List.{List}
use lib.ListN.{take, drop}
use lib.Seq.{get_or-take, get_or-drop}
use Rattle.octets.specs.Numbers.{byte_at}
use Rattle.dsk_fields.specs.Fields.{info_size}

pub info_byte : (b : List ℕ) (e i : ℕ) → i < 256 → byte_at (take info_size (drop e b)) i ≡ byte_at b (e + i)
info_byte b e i h = get_or-take 256 (drop e b) i 0 h ∙ get_or-drop e b i 0
