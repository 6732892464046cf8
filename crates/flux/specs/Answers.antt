-- What each public function answers (A-2 to A-5), and what it leaves in the lent buffers (RO-9, RO-10).
use Rattle.std.specs.Prelude.{ℕ, zero, suc, ◌+◌, min, List, [], ◌∷◌, ◌++◌, cond, length, drop, ltb, Result, Ok, Err}
use Rattle.refusals.specs.declared.Refusal.{Refusal}
use Rattle.refusals.specs.Refusals.{number_of}
use Rattle.flux.specs.Coding.{words_of, bytes_of, bad_flux_size}
use Rattle.flux.specs.Reading.{zero_ticks, intervals, open_time, closing_numbers}
use Rattle.flux.specs.Writing.{first_inexpressible, words_for}
use Rattle.flux.specs.declared.Step.{Step}
use Rattle.flux.specs.declared.Step.TheVariants as step
use Rattle.flux.specs.declared.Filled.{Filled}

-- R-15: the number of Places.
abbrev pub places_refused : ℕ
places_refused = 15

-- R-16: the number of Time.
abbrev pub time_refused : ℕ
time_refused = 16

-- R-17: the number of Words.
abbrev pub words_refused : ℕ
words_refused = 17

-- A-2: an answer: a refusal's number and position, or the values that are given.
pub data Answer : Type 0 where
  refused : ℕ → ℕ → Answer
  gives : List ℕ → Answer

-- ---- a step of the cursor (F-9, F-10)

-- A-3: number and values of each case: interval, open time, next word and closing word; where there is no interval, open time and next word.
abbrev pub of_step : Result Step Refusal → Answer
of_step (Ok (step.Interval t o c n)) = gives (t ∷ o ∷ n.word ∷ c ∷ [])
of_step (Ok (step.Open o n)) = gives (o ∷ n.word ∷ [])
of_step (Err r) = refused (number_of r.reason) r.position

-- F-9, F-10: the cursor is at word `from`; p ticks are pending at word n, where the words ws are left. The first closing word gives the
-- interval, the cursor just past it, and its own number; where none is left, the open time, and the cursor unchanged.
unfoldable pub step_from : ℕ → ℕ → ℕ → List ℕ → Answer
step_from from p n [] = gives (p ∷ from ∷ [])
step_from from p n (zero ∷ ws) = step_from from (p + zero_ticks) (n + 1) ws
step_from from p n (suc w ∷ ws) = gives ((p + suc w) ∷ 0 ∷ (n + 1) ∷ n ∷ [])

-- F-9, F-4: a step over flux bytes s with the cursor at word n: zero words count from there on. R-17 comes first.
abbrev pub step_at : List ℕ → ℕ → Answer
step_at s n = cond (bad_flux_size (length s)) (refused words_refused 0) (step_from n 0 n (drop n (words_of s)))

-- ---- an answer that fills a buffer

-- RO-9, RO-10: a refusal's number and position; or the values that are given, and what then stands at the buffer's start.
pub data Filling : Type 0 where
  refuses : ℕ → ℕ → Filling
  fills : List ℕ → List ℕ → Filling

-- A-2: what a call that fills a buffer answers.
abbrev pub answer_of : Filling → Answer
answer_of (refuses k i) = refused k i
answer_of (fills vs xs) = gives vs

-- RO-9, RO-10: the buffer at exit: as it was if the call is refused, else the answer at its start and its old contents beyond.
abbrev pub buffer_after : List ℕ → Filling → List ℕ
buffer_after old (refuses k i) = old
buffer_after old (fills vs xs) = xs ++ drop (length xs) old

-- R-15: the answer is refused where it needs more places than the lent buffer has.
abbrev pub in_places : ℕ → List ℕ → List ℕ → Filling
in_places places vs xs = cond (ltb places (length xs)) (refuses places_refused 0) (fills vs xs)

-- ---- all intervals at one go

-- A-4: number and values of each case: how many places are filled, and the open time.
abbrev pub of_filled : Result Filled Refusal → Answer
of_filled (Ok f) = gives (f.filled ∷ f.«open» ∷ [])
of_filled (Err r) = refused (number_of r.reason) r.position

-- F-12: a list xs made of the flux, whose open time is o, into so many places.
abbrev pub read_into : ℕ → List ℕ → ℕ → Filling
read_into places xs o = in_places places (length xs ∷ o ∷ []) xs

-- F-12, RO-8: a list xs made of flux bytes s, into so many places: 17, then 15.
abbrev pub list_read : List ℕ → ℕ → List ℕ → Filling
list_read s places xs = cond (bad_flux_size (length s)) (refuses words_refused 0) (read_into places xs (open_time 0 (words_of s)))

-- F-12, F-4: the intervals of flux bytes s, into so many places.
abbrev pub reading : List ℕ → ℕ → Filling
reading s places = list_read s places (intervals 0 (words_of s))

-- F-18, F-19: the numbers of the closing words of flux bytes s, into so many places.
abbrev pub closing_reading : List ℕ → ℕ → Filling
closing_reading s places = list_read s places (closing_numbers 0 (words_of s))

-- F-19: the intervals of flux bytes s into the times, where their closing words go to the closings: into as many places as both lists have.
abbrev pub closed_times : List ℕ → List ℕ → List ℕ → Filling
closed_times s times closings = reading s (min (length times) (length closings))

-- F-19: and the numbers of their closing words into the closings.
abbrev pub closed_numbers : List ℕ → List ℕ → List ℕ → Filling
closed_numbers s times closings = closing_reading s (min (length times) (length closings))

-- ---- words from times

-- A-5: number and values of each case: how many bytes are filled.
abbrev pub of_written : Result ℕ Refusal → Answer
of_written (Ok n) = gives (n ∷ [])
of_written (Err r) = refused (number_of r.reason) r.position

-- F-15: the bytes bs, into so many places.
abbrev pub write_into : ℕ → List ℕ → Filling
write_into places bs = in_places places (length bs ∷ []) bs

-- F-15, RO-8: the bytes of the words of times, into so many places: 16, then 15.
abbrev pub writing : List ℕ → ℕ → Filling
writing ts places =
    cond (ltb (first_inexpressible ts) (length ts)) (refuses time_refused (first_inexpressible ts))
    (write_into places (bytes_of (words_for ts)))
