-- From words to intervals (F-2 to F-7), and which words close them (F-18).
use Rattle.std.specs.Prelude.{ℕ, zero, suc, ◌+◌, List, [], ◌∷◌}

-- F-2: the ticks of a zero word, which closes nothing.
abbrev pub zero_ticks : ℕ
zero_ticks = 65_536

-- F-3: a word w > 0 closes an interval of w ticks, plus 65,536 for each zero word directly before it; p ticks are pending.
unfoldable pub intervals : ℕ → List ℕ → List ℕ
intervals p [] = []
intervals p (zero ∷ ws) = intervals (p + zero_ticks) ws
intervals p (suc w ∷ ws) = (p + suc w) ∷ intervals 0 ws

-- F-5: zero words after the last closing word are open time, 65,536 ticks each, and no interval; p ticks are pending.
unfoldable pub open_time : ℕ → List ℕ → ℕ
open_time p [] = p
open_time p (zero ∷ ws) = open_time (p + zero_ticks) ws
open_time p (suc w ∷ ws) = open_time 0 ws

-- F-6: how many words are not zero.
unfoldable pub closing_words : List ℕ → ℕ
closing_words [] = 0
closing_words (zero ∷ ws) = closing_words ws
closing_words (suc w ∷ ws) = suc (closing_words ws)

-- F-7: the sum over the words: 65,536 for a zero word, w for any other.
unfoldable pub total_ticks : List ℕ → ℕ
total_ticks [] = 0
total_ticks (zero ∷ ws) = zero_ticks + total_ticks ws
total_ticks (suc w ∷ ws) = suc w + total_ticks ws

-- F-18: the numbers of the words that are not zero, in order; the first word has number n.
unfoldable pub closing_numbers : ℕ → List ℕ → List ℕ
closing_numbers n [] = []
closing_numbers n (zero ∷ ws) = closing_numbers (n + 1) ws
closing_numbers n (suc w ∷ ws) = n ∷ closing_numbers (n + 1) ws
