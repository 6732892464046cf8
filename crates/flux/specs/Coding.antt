-- Flux words in bytes (F-1), and which flux is refused by its length (R-17).
use Rattle.std.specs.Prelude.{ℕ, ◌%◌, ◌<◌, List, [], ◌∷◌, ◌++◌, Bool, ◌||◌, get_or, eqb, ltb}
use Rattle.octets.specs.Numbers.{be16, be16_bytes}

-- F-1: the words of flux bytes, two bytes to a word; an odd last byte is no word.
unfoldable pub words_of : List ℕ → List ℕ
words_of [] = []
words_of (a ∷ []) = []
words_of (hi ∷ lo ∷ s) = be16 hi lo ∷ words_of s

-- F-1: the bytes of flux words, two to a word.
unfoldable pub bytes_of : List ℕ → List ℕ
bytes_of [] = []
bytes_of (w ∷ ws) = be16_bytes w ++ bytes_of ws

-- N-7: every element is a flux word, a number below 65,536.
abbrev pub Words : List ℕ → Type 0
Words ws = (i : ℕ) → get_or ws i 0 < 65_536

-- R-17, F-8: the most bytes of flux that are read.
abbrev pub flux_limit : ℕ
flux_limit = 268_435_456

-- R-17: flux of n bytes is refused: n is odd or above 268,435,456.
abbrev pub bad_flux_size : ℕ → Bool
bad_flux_size n = eqb (n % 2) 1 || ltb flux_limit n
