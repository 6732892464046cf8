-- A question and its answer as numbers: a question is a kind, a track and a revolution, an answer a row of 16 numbers.
use Rattle.std.specs.Prelude.{ℕ, List, [], ◌∷◌, ◌++◌, map, cond, not, length, take, replicate, T, eqb, Float}
use Rattle.std.specs.Float.{binary64}
use Rattle.std.specs.Float.Ieee.{is_nan, to_bits}
use Rattle.octets.specs.Numbers.{unsigned64}
use Rattle.octets.specs.Sums.{byte_sum}
use Rattle.scp.specs.Answers.{Answer, refused, none, numbers, footer, speeds, bytes}
use Rattle.scp_book.specs.Book as book
use Rattle.scp_rows.specs.declared.Kind.{Kind}
use Rattle.scp_rows.specs.declared.Kind.TheVariants as kind
use Rattle.scp_book.specs.Book.{Question}

-- S-14: the question of a kind: 0 validate, 1 header, 2 footer, 3 track, 4 revolution, 5 flux, 6 speed, 7 track speed; another kind is a
-- validation.
unfoldable pub question_of : ℕ → ℕ → ℕ → Question
question_of kind t k =
    cond (eqb kind 1) book.header
    (cond (eqb kind 2) book.footer
    (cond (eqb kind 3) (book.track t)
    (cond (eqb kind 4) (book.revolution t k)
    (cond (eqb kind 5) (book.flux t k)
    (cond (eqb kind 6) (book.speed t k)
    (cond (eqb kind 7) (book.track_speed t) book.validate))))))

-- S-14: the kind that a number names.
unfoldable pub kind_of : ℕ → Kind
kind_of n =
    cond (eqb n 1) kind.Header
    (cond (eqb n 2) kind.Footer
    (cond (eqb n 3) kind.Track
    (cond (eqb n 4) kind.Revolution
    (cond (eqb n 5) kind.Flux
    (cond (eqb n 6) kind.Speed
    (cond (eqb n 7) kind.TrackSpeed kind.Validate))))))

-- ---- a row of 16 numbers: refusal number, position, the values, then zeros

-- S-16: how many numbers an answer has.
abbrev pub answer_size : ℕ
answer_size = 16

-- S-16: numbers, with zeros behind them up to the size of an answer.
abbrev pub padded : List ℕ → List ℕ
padded vs = take answer_size (vs ++ replicate answer_size 0)

-- S-16, S-17: the row of an answer: the values as they are; a footer as 1, its offsets, its times as two's complement and its version bytes; speeds
-- as 1 and the bit patterns of the floats; no footer and no speed as 0; bytes as the file offset of the first, how many they are, and
-- their sum modulo 2^32.
abbrev pub row_of : Answer → List ℕ
row_of (refused number position) = padded (number ∷ position ∷ [])
row_of none = padded []
row_of (numbers vs) = padded (0 ∷ 0 ∷ vs)
row_of (footer offsets times versions) = padded (0 ∷ 0 ∷ 1 ∷ (offsets ++ (map unsigned64 times ++ versions)))
row_of (speeds xs) = padded (0 ∷ 0 ∷ 1 ∷ map (to_bits binary64) xs)
row_of (bytes start b) = padded (0 ∷ 0 ∷ start ∷ length b ∷ byte_sum b ∷ [])

-- S-19: speeds that are numbers: only such have bit patterns of their own.
abbrev pub AllReal : List Float → Type 0
AllReal [] = Unit {0}
AllReal (x ∷ xs) = T (not (is_nan x)) × AllReal xs

-- S-19: an answer whose speeds are numbers.
abbrev pub Real : Answer → Type 0
Real (speeds xs) = AllReal xs
Real (refused number position) = Unit {0}
Real none = Unit {0}
Real (numbers vs) = Unit {0}
Real (footer offsets times versions) = Unit {0}
Real (bytes start b) = Unit {0}
