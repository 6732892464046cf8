-- The numbers of a revolution's line that its flux gives (P-4).
use Rattle.std.specs.Prelude.{◌≡◌, ℕ, List, [], ◌∷◌, length}
use Rattle.flux.specs.Coding.{words_of}
use Rattle.flux.specs.Reading.{intervals, open_time, closing_numbers}

-- P-4: the last of some numbers, or n where there is none.
unfoldable pub last_of : ℕ → List ℕ → ℕ
last_of n [] = n
last_of n (x ∷ xs) = last_of x xs

-- P-4: flux bytes s have n intervals, o ticks of open time, and their last closing word is number l, 0 where there is none.
pub record Counts (s : List ℕ) (n o l : ℕ) : Type 0 where
  pub count : n ≡ length (intervals 0 (words_of s))
  pub open_ticks : o ≡ open_time 0 (words_of s)
  pub last : l ≡ last_of 0 (closing_numbers 0 (words_of s))
