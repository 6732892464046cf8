-- The numbers of flux are those of the bulk call and the sum over its words; and they fit, as each word takes at most 65,536 ticks.
use Prim.Native.Nat.{ℕ, zero, suc, ◌*◌, ◌<◌, ◌≤◌}
use mathlib.Core.Path.{◌≡◌, refl, ◌∙◌}
use mathlib.Core.Logic.{◌↔◌}
use mathlib.Core.List.{List, [], ◌∷◌}
use mathlib.Core.Bool.{Bool, true, false, cond}
use native.Mathlib.Omega.{arith}
use lib.ListN.{length}
use Rattle.flux.specs.Coding.{words_of, Words, bad_flux_size}
use Rattle.flux.specs.Reading.{zero_ticks, intervals, open_time, total_ticks}
use Rattle.flux.specs.Answers.{words_refused, refused, gives, refuses, read_into}
use Rattle.flux.proofs.AnswerLaws.{places_only, list_fits}
use Rattle.flux.proofs.WordLaws.{length_words, good_size}
use Rattle.flux_summary.specs.Summaries.{summary_of}
use Rattle.flux_theorems.proofs.Counting.{summed}
use Rattle.flux_theorems.proofs.RoundTrips.{words_of_lem}
use Rattle.flux_theorems.specs.Theorems.{Summed, SummaryIsSummed, SummaryRefused}

-- a word takes at most 65,536 ticks
total_most : (ws : List ℕ) → Words ws → total_ticks ws ≤ zero_ticks * length ws
unfolding total_ticks
total_most [] h = omega arith
total_most (zero ∷ ws) h = let ih = total_most ws (λ i. h (suc i)) in omega arith
total_most (suc w ∷ ws) h =
    let ih = total_most ws (λ i. h (suc i)) in
    let first : suc w < 65_536 = h 0 in
    omega arith

module _ (s : List ℕ) (n o total : ℕ) where
  -- what is given is not refused, and is what the definition gives
  record Given : Type 0 where
    good : bad_flux_size (length s) ≡ false
    count : n ≡ length (intervals 0 (words_of s))
    ticks : o ≡ open_time 0 (words_of s)
    sum : total ≡ total_ticks (words_of s)

  given_by : (x : Bool) → bad_flux_size (length s) ≡ x → cond x (refused words_refused 0) (gives (summary_of (words_of s))) ≡ gives (n ∷ o ∷ total ∷ []) → Given
  given_by true q e = let z : ◌≡◌ {A = ℕ} 0 1 = cc in absurd (omega arith)
  given_by false q e = record { good = q; count = cc; ticks = cc; sum = cc }

  is_summed : Given → Summed s n o total
  is_summed g =
      record {
        bulk = λ places h.
            let count = g.count in
            let ticks = g.ticks in
            let room : length (intervals 0 (words_of s)) ≤ places = omega arith in
            list_fits s places (intervals 0 (words_of s)) g.good room ∙ cc;
        sum = g.sum;
        parts = let all = summed (words_of s) in let ticks = g.ticks in let sum = g.sum in omega arith;
        fits = λ octets.
            let most = total_most (words_of s) (words_of_lem s octets) in
            let size = length_words s in
            let limit = (good_size (length s) g.good).limit in
            let sum = g.sum in
            omega arith;
      }

pub summary_is_summed : SummaryIsSummed
summary_is_summed s n o total e = is_summed s n o total (given_by s n o total (bad_flux_size (length s)) refl e)

pub summary_refused : SummaryRefused
summary_refused s places = by (bad_flux_size (length s))
  where
    times : List ℕ
    times = intervals 0 (words_of s)

    by : (x : Bool)
        → (cond x (refused words_refused 0) (gives (summary_of (words_of s))) ≡ refused words_refused 0)
        ↔ (cond x (refuses words_refused 0) (read_into places times (open_time 0 (words_of s))) ≡ refuses words_refused 0)
    by true = (λ e. refl, λ e. refl)
    by false = (
      λ e. let z : ◌≡◌ {A = ℕ} 0 1 = cc in absurd (omega arith),
      λ e. absurd (places_only places (length times ∷ open_time 0 (words_of s) ∷ []) times 0 e),
    )
