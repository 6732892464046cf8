-- What the definitions are proved to mean together. The proofs stand in proofs/.
use Rattle.std.specs.Prelude.{ℕ, ◌≤◌, ◌≡◌, ◌↔◌, List, true, length, take}
use Rattle.utf8.specs.Table.{valid_up_to, well_formed}
use Rattle.utf8_theorems.specs.Encoding.{Text}

-- UT-4: bytes are well-formed by table 3-7 exactly if they are the encodings, by table 3-6, of some scalar values.
abbrev pub WellFormedIsText : Type 0
WellFormedIsText = (s : List ℕ) → (well_formed s ≡ true) ↔ Text s

-- UT-5: the first n bytes of s are well-formed, and of no longer start of s are all.
pub record Longest (s : List ℕ) (n : ℕ) : Type 0 where
  pub within : n ≤ length s
  pub good : well_formed (take n s) ≡ true
  pub longest : (m : ℕ) → m ≤ length s → well_formed (take m s) ≡ true → m ≤ n

-- UT-5: up to where bytes are valid is their longest start that is well-formed.
abbrev pub ValidUpToIsLongest : Type 0
ValidUpToIsLongest = (s : List ℕ) → Longest s (valid_up_to s)
