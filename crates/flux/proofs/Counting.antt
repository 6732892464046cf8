-- The intervals number as the words that are not zero, and so do the numbers of these, so that there are no more than words.
use mathlib.Core.Path.{◌≡◌, refl, sym, ap, ◌∙◌}
use Prim.Native.Nat.{ℕ, zero, suc, ◌+◌, ◌≤◌}
use native.Mathlib.Omega.{arith}
use mathlib.Core.List.{List, [], ◌∷◌}
use lib.ListN.{length}
use Rattle.flux.specs.Reading.{zero_ticks, intervals, closing_words, closing_numbers}

counted_from : (p : ℕ) (ws : List ℕ) → length (intervals p ws) ≡ closing_words ws
unfolding intervals closing_words
counted_from p [] = refl
counted_from p (zero ∷ ws) = counted_from (p + zero_ticks) ws
counted_from p (suc w ∷ ws) = ap suc (counted_from 0 ws)

pub counted : (ws : List ℕ) → length (intervals 0 ws) ≡ closing_words ws
counted = counted_from 0

pub numbered : (n : ℕ) (ws : List ℕ) → length (closing_numbers n ws) ≡ closing_words ws
unfolding closing_numbers closing_words
numbered n [] = refl
numbered n (zero ∷ ws) = numbered (n + 1) ws
numbered n (suc w ∷ ws) = ap suc (numbered (n + 1) ws)

-- there is a closing word for each interval
pub as_many : (ws : List ℕ) → length (closing_numbers 0 ws) ≡ length (intervals 0 ws)
as_many ws = numbered 0 ws ∙ sym (counted ws)

pub at_most_words : (ws : List ℕ) → closing_words ws ≤ length ws
unfolding closing_words
at_most_words [] = omega arith
at_most_words (zero ∷ ws) = let ih = at_most_words ws in omega arith
at_most_words (suc w ∷ ws) = let ih = at_most_words ws in omega arith
