-- Well-formed UTF-8 by the Unicode Standard, section 3.9, table 3-7, "Well-Formed UTF-8 Byte Sequences" (UT-1, UT-2).
use Rattle.std.specs.Prelude.{ℕ, zero, suc, ◌-◌, List, [], ◌∷◌, Bool, true, false, ◌&&◌, cond, length, leb, eqb}

-- UT-1: a range of bytes, with both its ends.
infix 80 ◌to◌
pub data Range : Type 0 where
  ◌to◌ : ℕ → ℕ → Range

-- UT-1: the byte b lies in the range.
abbrev pub holds : Range → ℕ → Bool
holds (lo to hi) b = leb lo b && leb b hi

-- UT-1: table 3-7, row by row: the range of the first byte, then of the second, the third and the fourth.
unfoldable pub table : List (List Range)
table =
    (0x00 to 0x7F ∷ [])
    ∷ (0xC2 to 0xDF ∷ 0x80 to 0xBF ∷ [])
    ∷ (0xE0 to 0xE0 ∷ 0xA0 to 0xBF ∷ 0x80 to 0xBF ∷ [])
    ∷ (0xE1 to 0xEC ∷ 0x80 to 0xBF ∷ 0x80 to 0xBF ∷ [])
    ∷ (0xED to 0xED ∷ 0x80 to 0x9F ∷ 0x80 to 0xBF ∷ [])
    ∷ (0xEE to 0xEF ∷ 0x80 to 0xBF ∷ 0x80 to 0xBF ∷ [])
    ∷ (0xF0 to 0xF0 ∷ 0x90 to 0xBF ∷ 0x80 to 0xBF ∷ 0x80 to 0xBF ∷ [])
    ∷ (0xF1 to 0xF3 ∷ 0x80 to 0xBF ∷ 0x80 to 0xBF ∷ 0x80 to 0xBF ∷ [])
    ∷ (0xF4 to 0xF4 ∷ 0x80 to 0x8F ∷ 0x80 to 0xBF ∷ 0x80 to 0xBF ∷ [])
    ∷ []

-- UT-1: the bytes s start with a byte of each range of the row.
unfoldable pub starts : List Range → List ℕ → Bool
starts [] s = true
starts (r ∷ row) [] = false
starts (r ∷ row) (b ∷ s) = holds r b && starts row s

-- UT-1: how many bytes the sequence at the start of s has, by the first of these rows that s starts with; 0 where there is none.
unfoldable pub size_by : List (List Range) → List ℕ → ℕ
size_by [] s = 0
size_by (row ∷ rows) s = cond (starts row s) (length row) (size_by rows s)

-- UT-1: the same by the table.
abbrev pub sequence_size : List ℕ → ℕ
sequence_size s = size_by table s

-- UT-2: how many bytes of s come before the first place where a sequence should start and none does; all of them where there is no such
-- place. The first k bytes are the rest of a sequence that started before s.
unfoldable pub good_from : ℕ → List ℕ → ℕ
good_from k [] = 0
good_from (suc k) (b ∷ s) = suc (good_from k s)
good_from zero (b ∷ s) =
    cond (eqb (sequence_size (b ∷ s)) 0) 0 (suc (good_from (sequence_size (b ∷ s) - 1) s))

-- UT-2: the same from the start of a text on.
abbrev pub valid_up_to : List ℕ → ℕ
valid_up_to s = good_from 0 s

-- UT-2: well-formed: sequences of the table, one after the other, to the end.
abbrev pub well_formed : List ℕ → Bool
well_formed s = eqb (valid_up_to s) (length s)
