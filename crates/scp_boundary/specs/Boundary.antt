-- The values of what a SuperCard Pro image and flux answer, as they pass to C (the table of the boundary, include/scp.h).
use Rattle.std.specs.Prelude.{ℕ, List, [], ◌∷◌, ◌++◌, map, cond, length, replicate, eqb, ltb, pos, Float}
use Rattle.std.specs.Float.{binary64}
use Rattle.std.specs.Float.Ieee.{of_int}
use Rattle.octets.specs.Numbers.{unsigned64}
use Rattle.flux.specs.Answers as flux
use Rattle.boundary.specs.Boundary.{Given, refuses, gives}
use Rattle.scp.specs.Answers.{Answer, refused, none, numbers, footer, speeds, bytes}

-- ---- the values of an answer

-- C-4 to C-9: as numbers. A footer: 1, six offsets, two times (two's complement), four version bytes, and 13 zeros where there is none. Bytes: as
-- they are, without where they start. Speeds have no numbers here; they go by `floats_of`.
abbrev pub numbers_of : Answer → Given ℕ
numbers_of (refused number position) = refuses number position
numbers_of none = gives (replicate 13 0)
numbers_of (numbers vs) = gives vs
numbers_of (footer offsets times versions) = gives (1 ∷ (offsets ++ (map unsigned64 times ++ versions)))
numbers_of (speeds xs) = gives []
numbers_of (bytes start b) = gives b

-- C-28: a part of the image as where it starts and how many bytes it has. Nothing else is asked for so.
abbrev pub part_numbers : Answer → Given ℕ
part_numbers (refused number position) = refuses number position
part_numbers (bytes start b) = gives (start ∷ length b ∷ [])
part_numbers none = gives []
part_numbers (numbers vs) = gives []
part_numbers (footer offsets times versions) = gives []
part_numbers (speeds xs) = gives []

-- C-10: a whole number as an f64.
abbrev pub whole : ℕ → Float
whole n = of_int binary64 (pos n)

-- C-10: as n floats: 1.0 and the speeds, or zeros where there is none.
abbrev pub floats_of : ℕ → Answer → Given Float
floats_of n (refused number position) = refuses number position
floats_of n none = gives (replicate n (whole 0))
floats_of n (speeds xs) = gives (whole 1 ∷ xs)
floats_of n (numbers vs) = gives []
floats_of n (footer offsets times versions) = gives []
floats_of n (bytes start b) = gives []

-- ---- flux, which stands in no image

-- C-11: a step as interval, open ticks, next word, closing word: one that gives no interval has two values, and zeros around them.
abbrev pub four : List ℕ → List ℕ
four vs = cond (eqb (length vs) 2) (0 ∷ (vs ++ (0 ∷ []))) vs

-- C-11: a step as four numbers.
abbrev pub step_numbers : flux.Answer → Given ℕ
step_numbers (flux.refused number position) = refuses number position
step_numbers (flux.gives vs) = gives (four vs)

-- C-12, C-25: an answer as what is put to `out`.
abbrev pub given_of : flux.Answer → Given ℕ
given_of (flux.refused number position) = refuses number position
given_of (flux.gives vs) = gives vs

-- C-12, C-25: an answer that fills a buffer has its values put to `out`, too: 15 where that is too short.
abbrev pub both : ℕ → flux.Filling → flux.Filling
both places (flux.refuses number position) = flux.refuses number position
both places (flux.fills vs xs) = cond (ltb places (length vs)) (flux.refuses 15 0) (flux.fills vs xs)

-- C-12, C-25: what is put to `out` of an answer that fills a buffer.
abbrev pub values_of : flux.Filling → Given ℕ
values_of f = given_of (flux.answer_of f)
