-- The numbers of flux words that a report wants without their list (F-21).
use Rattle.std.specs.Prelude.{ℕ, List, [], ◌∷◌, cond, length, Result, Ok, Err}
use Rattle.refusals.specs.declared.Refusal.{Refusal}
use Rattle.refusals.specs.Refusals.{number_of}
use Rattle.flux.specs.Coding.{words_of, bad_flux_size}
use Rattle.flux.specs.Reading.{intervals, open_time, total_ticks}
use Rattle.flux.specs.Answers.{Answer, refused, gives, words_refused}
use Rattle.flux_summary.specs.declared.Summary.{Summary}

-- F-21: of words: how many intervals, the open time, and the ticks of all of them.
abbrev pub summary_of : List ℕ → List ℕ
summary_of ws = length (intervals 0 ws) ∷ open_time 0 ws ∷ total_ticks ws ∷ []

-- A-21: the three numbers as they are returned.
abbrev pub summary_numbers : Summary → List ℕ
summary_numbers m = m.intervals ∷ m.«open» ∷ m.total ∷ []

-- A-21: number and values of each case: how many intervals, the open time, the ticks of all words.
abbrev pub of_summarized : Result Summary Refusal → Answer
of_summarized (Ok m) = gives (summary_numbers m)
of_summarized (Err r) = refused (number_of r.reason) r.position

-- F-21, R-17: the numbers of flux bytes s; 17 where they are refused by their length.
abbrev pub summarizing : List ℕ → Answer
summarizing s = cond (bad_flux_size (length s)) (refused words_refused 0) (gives (summary_of (words_of s)))
