-- What the definitions of flux are proved to mean together. The proofs stand in proofs/.
use Rattle.std.specs.Prelude.{ℕ, suc, ◌+◌, ◌<◌, ◌≤◌, ◌≡◌, ◌↔◌, ◌⊎◌, List, [], ◌∷◌, true, false, length, take, drop, get_or}
use Rattle.octets.specs.Numbers.{Octets}
use Rattle.octets.specs.Sums.{sum_of}
use Rattle.flux.specs.Coding.{words_of, bytes_of, Words, bad_flux_size, flux_limit}
use Rattle.flux.specs.Reading.{intervals, open_time, closing_words, total_ticks, closing_numbers}
use Rattle.flux_summary.specs.Summaries.{summarizing}
use Rattle.flux.specs.Writing.{tick_limit, expressible, words_for, first_inexpressible}
use Rattle.flux.specs.Answers.{places_refused, words_refused, refused, gives, step_at, refuses, fills, answer_of, reading, closing_reading, closed_times, closed_numbers, writing}

-- The intervals number as the words that are not zero (F-6).
abbrev pub IntervalsCountClosingWords : Type 0
IntervalsCountClosingWords = (ws : List ℕ) → length (intervals 0 ws) ≡ closing_words ws

-- Intervals and open time add up to the sum over the words (F-7).
abbrev pub IntervalsSumToTotal : Type 0
IntervalsSumToTotal = (ws : List ℕ) → sum_of (intervals 0 ws) + open_time 0 ws ≡ total_ticks ws

-- n, o and total are the numbers of flux bytes s (F-21): the bulk call gives n intervals and the open time o; the total is the sum over the words,
-- which the intervals and the open time make up; and of bytes it is at most 65,536 for each of 134,217,728 words, so that 64 bits hold it.
pub record Summed (s : List ℕ) (n o total : ℕ) : Type 0 where
  pub bulk : (places : ℕ) → n ≤ places → reading s places ≡ fills (n ∷ o ∷ []) (intervals 0 (words_of s))
  pub sum : total ≡ total_ticks (words_of s)
  pub parts : sum_of (intervals 0 (words_of s)) + o ≡ total
  pub fits : Octets s → total ≤ 8_796_093_022_208

-- The pass over flux bytes gives these numbers (F-21).
abbrev pub SummaryIsSummed : Type 0
SummaryIsSummed = (s : List ℕ) (n o total : ℕ) → summarizing s ≡ gives (n ∷ o ∷ total ∷ []) → Summed s n o total

-- It is refused exactly if the bulk call is refused with 17 (F-21).
abbrev pub SummaryRefused : Type 0
SummaryRefused = (s : List ℕ) (places : ℕ) → (summarizing s ≡ refused words_refused 0) ↔ (reading s places ≡ refuses words_refused 0)

-- Word c closes the interval of number i: it is there and is not zero, i closing words stand before it, and the words up to it take as many
-- ticks as the intervals up to that one (F-18).
pub record Closes (ws : List ℕ) (i c : ℕ) : Type 0 where
  pub there : c < length ws
  pub closing : get_or ws c 0 ≡ 0 → ⊥
  pub before : closing_words (take c ws) ≡ i
  pub ticks : total_ticks (take (suc c) ws) ≡ sum_of (take (suc i) (intervals 0 ws))

-- The numbers of the closing words: there is one for each interval, the number of the word that closes it; the number of every word that is not
-- zero is among them, at its place; and from word n on they are the same, without those of the closing words before it (F-18).
pub record NumbersClosingWords (ws : List ℕ) : Type 0 where
  pub count : length (closing_numbers 0 ws) ≡ length (intervals 0 ws)
  pub each : (i : ℕ) → i < length (intervals 0 ws) → Closes ws i (get_or (closing_numbers 0 ws) i 0)
  pub all : (c : ℕ) → c < length ws → (get_or ws c 0 ≡ 0 → ⊥) → get_or (closing_numbers 0 ws) (closing_words (take c ws)) 0 ≡ c
  pub from : (n : ℕ) → closing_numbers n (drop n ws) ≡ drop (closing_words (take n ws)) (closing_numbers 0 ws)

-- Steps of a cursor over flux bytes s, from word n on: the intervals that they give one by one, their closing words, and the open time at the
-- end (F-11).
pub data Steps (s : List ℕ) : ℕ → List ℕ → List ℕ → ℕ → Type 0 where
  at_end : {n o : ℕ} → step_at s n ≡ gives (o ∷ n ∷ []) → Steps s n [] [] o
  step : {n m t c o : ℕ} {ts cs : List ℕ} → step_at s n ≡ gives (t ∷ 0 ∷ m ∷ c ∷ []) → Steps s m ts cs o → Steps s n (t ∷ ts) (c ∷ cs) o

-- Stepping from any word on gives, one by one, the intervals of the words from there with their closing words, and then their open time (F-11).
abbrev pub StepsGiveIntervals : Type 0
StepsGiveIntervals =
    (s : List ℕ) (n : ℕ) → bad_flux_size (length s) ≡ false
    → Steps s n (intervals 0 (drop n (words_of s))) (closing_numbers n (drop n (words_of s))) (open_time 0 (drop n (words_of s)))

-- What the bulk calls give of flux bytes s are the steps from word 0 on; they are refused with 17 exactly if any step is (F-11).
pub record StepsAndBulk (s : List ℕ) : Type 0 where
  pub given : (places : ℕ) (vs us ts cs : List ℕ) → reading s places ≡ fills vs ts → closing_reading s places ≡ fills us cs
      → (o : ℕ) × ((vs ≡ length ts ∷ o ∷ []) × Steps s 0 ts cs o)
  pub words : (n places : ℕ) → (step_at s n ≡ refused words_refused 0) ↔ (reading s places ≡ refuses words_refused 0)

-- The bulk call with closing words, of flux bytes s into these two lists (F-19, F-20).
pub record TwoLists (s times closings : List ℕ) : Type 0 where
  -- where the second list is long enough, the answer and the times are those of the bulk call without it
  pub plain : length (closing_numbers 0 (words_of s)) ≤ length closings → closed_times s times closings ≡ reading s (length times)
  -- 17 aside, it is refused with 15 exactly if either list is too short
  pub short : bad_flux_size (length s) ≡ false
      → (closed_times s times closings ≡ refuses places_refused 0)
      ↔ ((length times < length (intervals 0 (words_of s))) ⊎ (length closings < length (closing_numbers 0 (words_of s))))
  -- both lists are filled, or both are left for the same refusal
  pub together : answer_of (closed_numbers s times closings) ≡ answer_of (closed_times s times closings)

-- Reading the words of times, if they are within the length of R-17, gives the times again, and no open time (F-16).
abbrev pub TimesReadBack : Type 0
TimesReadBack =
    (ts : List ℕ) → first_inexpressible ts ≡ length ts → length (bytes_of (words_for ts)) ≤ flux_limit
    → reading (bytes_of (words_for ts)) (length ts) ≡ fills (length ts ∷ 0 ∷ []) ts

-- Making words of the intervals of flux gives the flux again, if no open time remains and every interval is within the limit (F-17).
abbrev pub WordsWriteBack : Type 0
WordsWriteBack =
    (s : List ℕ) → Octets s → bad_flux_size (length s) ≡ false
    → open_time 0 (words_of s) ≡ 0 → ((i : ℕ) → get_or (intervals 0 (words_of s)) i 0 ≤ tick_limit)
    → writing (intervals 0 (words_of s)) (length s) ≡ fills (length s ∷ []) s

-- Words that read as the one interval t, with nothing open (F-14).
pub record ReadsAs (t : ℕ) (ws : List ℕ) : Type 0 where
  pub words : Words ws
  pub interval : intervals 0 ws ≡ t ∷ []
  pub nothing_open : open_time 0 ws ≡ 0

-- Of the times within the limit just those are refused that no words express, and above it every time (F-14).
pub record RefusesJustTheInexpressible (t : ℕ) : Type 0 where
  pub within : t ≤ tick_limit → (expressible t ≡ true) ↔ ((ws : List ℕ) × ReadsAs t ws)
  pub above : tick_limit < t → expressible t ≡ false
