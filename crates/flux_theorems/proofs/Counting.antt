-- The intervals number as the words that are not zero, and sum with the open time to the sum over the words.
use mathlib.Core.Path.{◌≡◌}
use Prim.Native.Nat.{ℕ, zero, suc, ◌+◌}
use native.Mathlib.Omega.{arith}
use mathlib.Core.List.{List, [], ◌∷◌}
use Rattle.octets.specs.Sums.{sum_of}
use Rattle.flux.specs.Reading.{zero_ticks, intervals, open_time, total_ticks}
use Rattle.flux.proofs.Counting as code
use Rattle.flux_theorems.specs.Theorems.{IntervalsCountClosingWords, IntervalsSumToTotal}

pub counted : IntervalsCountClosingWords
counted = code.counted

-- what was pending is in the sum too
summed_from : (p : ℕ) (ws : List ℕ) → sum_of (intervals p ws) + open_time p ws ≡ p + total_ticks ws
unfolding intervals open_time total_ticks sum_of
summed_from p [] = omega arith
summed_from p (zero ∷ ws) = let ih = summed_from (p + zero_ticks) ws in omega arith
summed_from p (suc w ∷ ws) = let ih = summed_from 0 ws in omega arith

pub summed : IntervalsSumToTotal
summed ws = let h = summed_from 0 ws in omega arith
