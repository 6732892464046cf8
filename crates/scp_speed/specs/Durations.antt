-- The longest and the shortest duration of a track.
use Rattle.std.specs.Prelude.{ℕ, zero, suc, ◌+◌, cond, eqb, ltb}

-- The longer of two durations (T-13).
abbrev pub longer : ℕ → ℕ → ℕ
longer a b = cond (ltb b a) a b

-- The longest of n durations from index i on; 0 where all are 0 (T-13).
unfoldable pub longest_from : (ℕ → ℕ) → ℕ → ℕ → ℕ
longest_from f i zero = 0
longest_from f i (suc n) = longer (f i) (longest_from f (i + 1) n)

-- The shorter of two durations that are not 0, or the one that is not (T-13).
abbrev pub shorter : ℕ → ℕ → ℕ
shorter a b = cond (eqb a 0) b (cond (eqb b 0) a (cond (ltb a b) a b))

-- The shortest nonzero of n durations from index i on; 0 where all are 0 (T-13).
unfoldable pub shortest_from : (ℕ → ℕ) → ℕ → ℕ → ℕ
shortest_from f i zero = 0
shortest_from f i (suc n) = shorter (f i) (shortest_from f (i + 1) n)
