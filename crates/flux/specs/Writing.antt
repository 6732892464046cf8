-- From times to words (F-13 to F-15).
use Rattle.std.specs.Prelude.{ℕ, suc, ◌/◌, ◌%◌, List, [], ◌∷◌, ◌++◌, Bool, not, ◌&&◌, cond, replicate, leb, eqb}
use Rattle.flux.specs.Reading.{zero_ticks}

-- F-13: the longest time that is written.
abbrev pub tick_limit : ℕ
tick_limit = 4_294_967_295

-- F-13, F-14: t is a time from 1 to 4,294,967,295 that is no multiple of 65,536; every other time is refused.
abbrev pub expressible : ℕ → Bool
expressible t = leb 1 t && (leb t tick_limit && not (eqb (t % zero_ticks) 0))

-- F-13: t / 65,536 zero words and then the remainder as a word.
abbrev pub words_for_time : ℕ → List ℕ
words_for_time t = replicate (t / zero_ticks) 0 ++ (t % zero_ticks ∷ [])

-- F-15: the words of several times, one after the other.
unfoldable pub words_for : List ℕ → List ℕ
words_for [] = []
words_for (t ∷ ts) = words_for_time t ++ words_for ts

-- R-16: the index of the first time that cannot be expressed; how many times there are, if all can.
unfoldable pub first_inexpressible : List ℕ → ℕ
first_inexpressible [] = 0
first_inexpressible (t ∷ ts) = cond (expressible t) (suc (first_inexpressible ts)) 0
