-- What every edition has in common: how many entries its table can have, and what an opened image holds of them.
use Prim.Native.Nat.{ℕ, ◌<◌, ◌≤◌}
use mathlib.Core.Path.{◌≡◌}
use mathlib.Core.List.{List}
use native.Mathlib.Omega.{arith}
use borrow.Author.Tests.{lt-ltb, le-ltb}
use Rattle.scp_fields.specs.Editions.{slots}
use Rattle.scp_fields.specs.Header.{flags, footer_bit, track_entry, held_entry}
use Rattle.scp_fields.specs.declared.Edition.{Edition}
use Rattle.scp_fields.specs.declared.Edition.TheVariants.{V1_4, V1_6}

-- a table has 166 to 168 entries
pub slots_least : (v : Edition) → 166 ≤ slots v
unfolding slots
slots_least V1_4 = omega arith
slots_least V1_6 = omega arith

pub slots_most : (v : Edition) → slots v ≤ 168
unfolding slots
slots_most V1_4 = omega arith
slots_most V1_6 = omega arith

-- images with the same FLAGS have a footer or not alike
pub bit_same : (v : Edition) (b q : List ℕ) → flags q ≡ flags b → footer_bit v q ≡ footer_bit v b
unfolding footer_bit
bit_same v b q e = cc

-- the entry that an opened image holds is the table's, or 0 behind it
module _ (v : Edition) (b : List ℕ) (t : ℕ) where
  pub held_in : t < slots v → held_entry v b t ≡ track_entry b t
  unfolding held_entry
  held_in h = simp (lt-ltb t (slots v) h)

  pub held_behind : slots v ≤ t → held_entry v b t ≡ 0
  unfolding held_entry
  held_behind h = simp (le-ltb t (slots v) h)
