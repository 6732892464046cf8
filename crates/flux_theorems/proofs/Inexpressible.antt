-- A time within the limit can be expressed exactly if some words read as that one interval with nothing open: its own words do, and the
-- interval of any words is no multiple of the ticks of a zero word, since the closing word is not zero and below them.
use mathlib.Core.Path.{◌≡◌}
use Prim.Native.Nat.{ℕ, zero, suc, ◌+◌, ◌*◌, ◌/◌, ◌%◌, ◌<◌, ◌≤◌}
use native.Mathlib.Omega.{arith}
use mathlib.Core.List.{List, [], ◌∷◌, ◌++◌, append-nil}
use lib.ListN.{replicate}
use borrow.Author.Tests.{le-leb, lt-leb}
use Rattle.flux.specs.Coding.{Words}
use Rattle.flux.specs.Reading.{zero_ticks, intervals, open_time}
use Rattle.flux.specs.Writing.{tick_limit, words_for_time}
use Rattle.flux_theorems.specs.Theorems.{ReadsAs, RefusesJustTheInexpressible}
use Rattle.flux.proofs.TimeLaws.{Expressible, expressed, expressing}
use Rattle.flux_theorems.proofs.RoundTrips.{time_closes, time_opens_nothing}

-- the first interval of words is no multiple
remainder : (k t : ℕ) (ws ts : List ℕ) → Words ws → intervals (zero_ticks * k) ws ≡ t ∷ ts → 0 < t % zero_ticks
unfolding intervals
remainder k t [] ts b e = let z : ◌≡◌ {A = ℕ} 0 1 = cc in absurd (omega arith)
remainder k t (zero ∷ ws) ts b e =
    let f : zero_ticks * k + zero_ticks ≡ zero_ticks * suc k = omega arith in
    remainder (suc k) t ws ts (λ i. b (suc i)) (rw f at e)
remainder k t (suc w ∷ ws) ts b e =
    let hw : suc w < 65_536 = b 0 in
    let f : zero_ticks * k + suc w ≡ t = cc in
    omega arith

-- the words of a time are words
time_words : (z w : ℕ) → w < 65_536 → Words (replicate z 0 ++ (w ∷ []))
time_words zero w h zero = h
time_words zero w h (suc i) = omega arith
time_words (suc z) w h zero = omega arith
time_words (suc z) w h (suc i) = time_words z w h i

own_words : (t : ℕ) → Expressible t → ReadsAs t (words_for_time t)
own_words t h =
    record {
      words = time_words (t / zero_ticks) (t % zero_ticks) (omega arith);
      interval = unfold intervals in rw append-nil at (time_closes t [] h);
      nothing_open = unfold open_time in rw append-nil at (time_opens_nothing t [] h);
    }

pub refuses_just_the_inexpressible : (t : ℕ) → RefusesJustTheInexpressible t
refuses_just_the_inexpressible t =
    record {
      within = λ l. (
        λ e. (words_for_time t, own_words t (expressed t e)),
        λ r. expressing t (record { limit = l; remainder = remainder 0 t r.0 [] r.1.words r.1.interval }),
      );
      above = λ l.
          let lower : 1 ≤ t = omega arith in
          simp (le-leb 1 t lower, lt-leb t tick_limit l);
    }
