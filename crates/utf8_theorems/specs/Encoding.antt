-- UTF-8 as an encoding of scalar values, by the Unicode Standard, section 3.9, table 3-6, "UTF-8 Bit Distribution" (UT-3).
use Rattle.std.specs.Prelude.{ℕ, ◌+◌, ◌/◌, ◌%◌, ◌<◌, ◌≤◌, ◌≡◌, List, [], ◌∷◌, ◌++◌, ◌⊎◌, cond, length, get_or, ltb}

-- UT-3: a Unicode scalar value is a code point, up to 10FFFF, that is no surrogate, D800 to DFFF (D76).
abbrev pub Scalar : ℕ → Type 0
Scalar v = (v < 0xD800) ⊎ ((0xE000 ≤ v) × (v ≤ 0x10FFFF))

-- UT-3: table 3-6, row by row: 0xxxxxxx; 110yyyyy 10xxxxxx; 1110zzzz 10yyyyyy 10xxxxxx; 11110uuu 10uuzzzz 10yyyyyy 10xxxxxx.
abbrev pub encode : ℕ → List ℕ
encode v =
    cond (ltb v 0x80) (v ∷ [])
    (cond (ltb v 0x800) ((0b1100_0000 + v / 64) ∷ (0b1000_0000 + v % 64) ∷ [])
    (cond (ltb v 0x10000) ((0b1110_0000 + v / 4096) ∷ (0b1000_0000 + v / 64 % 64) ∷ (0b1000_0000 + v % 64) ∷ [])
    ((0b1111_0000 + v / 262_144) ∷ (0b1000_0000 + v / 4096 % 64) ∷ (0b1000_0000 + v / 64 % 64) ∷ (0b1000_0000 + v % 64) ∷ [])))

-- UT-3: the encodings of several values, one after the other.
unfoldable pub encode_all : List ℕ → List ℕ
encode_all [] = []
encode_all (v ∷ vs) = encode v ++ encode_all vs

-- UT-3: vs are scalar values, and the bytes s are their encodings.
pub record Encoded (s vs : List ℕ) : Type 0 where
  pub scalars : (i : ℕ) → i < length vs → Scalar (get_or vs i 0)
  pub bytes : s ≡ encode_all vs

-- UT-3: the bytes s are text in UTF-8: the encodings of some scalar values.
abbrev pub Text : List ℕ → Type 0
Text s = (vs : List ℕ) × Encoded s vs
