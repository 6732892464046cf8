-- Stepping a cursor gives the intervals one by one. A step finds the first interval from its word on, and leaves the others; as it
-- goes past the closing word, the words that are left grow fewer.
use mathlib.Core.Path.{◌≡◌, refl, sym, ap, ◌∙◌}
use Prim.Native.Nat.{ℕ, zero, suc, ◌+◌, ◌<◌, ◌≤◌}
use native.Mathlib.Omega.{arith}
use mathlib.Core.List.{List, [], ◌∷◌}
use mathlib.Core.Bool.{Bool, true, false, cond}
use mathlib.Core.Logic.{◌↔◌}
use lib.Dec.{ltb}
use lib.ListN.{length, drop, drop_of_length-le}
use lib.Seq.{drop-drop}
use Rattle.flux.specs.Coding.{words_of, bad_flux_size}
use Rattle.flux.specs.Reading.{zero_ticks, intervals, open_time, closing_numbers}
use Rattle.flux.specs.Answers.{places_refused, words_refused, refused, gives, step_from, step_at, refuses, fills, list_read, reading, closing_reading}
use Rattle.flux.proofs.AnswerLaws.{places_only}
use Rattle.flux_theorems.specs.Theorems.{Steps, at_end, step, StepsGiveIntervals, StepsAndBulk}

-- What a step finds at word n of all words, where the words ws are left and p ticks are pending.
pub data Found (all : List ℕ) (from p n : ℕ) (ws : List ℕ) : Type 0 where
  closes : (t m c : ℕ) → n < m → step_from from p n ws ≡ gives (t ∷ 0 ∷ m ∷ c ∷ [])
      → intervals p ws ≡ t ∷ intervals 0 (drop m all) → closing_numbers n ws ≡ c ∷ closing_numbers m (drop m all)
      → open_time p ws ≡ open_time 0 (drop m all) → Found all from p n ws
  ends : step_from from p n ws ≡ gives (open_time p ws ∷ from ∷ []) → intervals p ws ≡ [] → closing_numbers n ws ≡ [] → Found all from p n ws

drop_next : (n : ℕ) (all : List ℕ) (w : ℕ) (ws : List ℕ) → drop n all ≡ w ∷ ws → drop (n + 1) all ≡ ws
drop_next n all w ws d = sym (drop-drop 1 n all) ∙ ap (drop 1) d

later : (all : List ℕ) (from p n : ℕ) (ws : List ℕ) → Found all from (p + zero_ticks) (n + 1) ws → Found all from p n (zero ∷ ws)
unfolding step_from intervals open_time closing_numbers
later all from p n ws (closes t m c l e i k o) = closes t m c (omega arith) e i k o
later all from p n ws (ends e i k) = ends e i k

pub found : (all : List ℕ) (from p n : ℕ) (ws : List ℕ) → drop n all ≡ ws → Found all from p n ws
unfolding step_from intervals open_time closing_numbers
found all from p n [] d = ends refl refl refl
found all from p n (zero ∷ ws) d = later all from p n ws (found all from (p + zero_ticks) (n + 1) ws (drop_next n all zero ws d))
found all from p n (suc w ∷ ws) d =
    let rest = sym (drop_next n all (suc w) ws d) in
    closes (p + suc w) (n + 1) n (omega arith) refl
    (ap (λ (xs : List ℕ). (p + suc w) ∷ intervals 0 xs) rest)
    (ap (λ (xs : List ℕ). n ∷ closing_numbers (n + 1) xs) rest)
    (ap (open_time 0) rest)

module _ (s : List ℕ) (good : bad_flux_size (length s) ≡ false) where
  abbrev StepsFrom : ℕ → Type 0
  StepsFrom n = Steps s n (intervals 0 (drop n (words_of s))) (closing_numbers n (drop n (words_of s))) (open_time 0 (drop n (words_of s)))

  step_is : (n : ℕ) → step_at s n ≡ step_from n 0 n (drop n (words_of s))
  step_is n = simp good

  past_end : (n : ℕ) → length (words_of s) ≤ n → StepsFrom n
  unfolding step_from intervals open_time closing_numbers
  past_end n h =
      let d = drop_of_length-le (words_of s) h in
      rw d (at_end {n = n} {o = 0} (step_is n ∙ rw d refl))

  one_step : (n : ℕ) → ((m : ℕ) → n < m → StepsFrom m) → Found (words_of s) n 0 n (drop n (words_of s)) → StepsFrom n
  one_step n rest (ends e i k) = rw (i, k) (at_end (step_is n ∙ e))
  one_step n rest (closes t m c l e i k o) = rw (i, k, o) (step (step_is n ∙ e) (rest m l))

  -- with at most k words left
  steps_from : (k n : ℕ) → length (words_of s) ≤ n + k → StepsFrom n
  steps_from zero n h = past_end n (omega arith)
  steps_from (suc k) n h = one_step n (λ m l. steps_from k m (omega arith)) (found (words_of s) n 0 n (drop n (words_of s)) refl)

pub steps : StepsGiveIntervals
steps s n good = steps_from s good (length (words_of s)) n (omega arith)

-- ---- the bulk calls beside the steps

-- what is filled is the list that was read, and its length and the open time are given
read_list : (s : List ℕ) (places : ℕ) (vs xs ys : List ℕ) → list_read s places xs ≡ fills vs ys
    → (bad_flux_size (length s) ≡ false) × ((vs ≡ length xs ∷ open_time 0 (words_of s) ∷ []) × (ys ≡ xs))
read_list s places vs xs ys e = go (bad_flux_size (length s)) (ltb places (length xs)) refl e
  where
    go : (x y : Bool) → bad_flux_size (length s) ≡ x
        → cond x (refuses words_refused 0) (cond y (refuses places_refused 0) (fills (length xs ∷ open_time 0 (words_of s) ∷ []) xs)) ≡ fills vs ys
        → (bad_flux_size (length s) ≡ false) × ((vs ≡ length xs ∷ open_time 0 (words_of s) ∷ []) × (ys ≡ xs))
    go true y q h = let z : ◌≡◌ {A = ℕ} 0 1 = cc in absurd (omega arith)
    go false true q h = let z : ◌≡◌ {A = ℕ} 0 1 = cc in absurd (omega arith)
    go false false q h = (q, ((cc), (cc)))

module _ (s : List ℕ) where
  bulk_steps : (places : ℕ) (vs us ts cs : List ℕ) → reading s places ≡ fills vs ts → closing_reading s places ≡ fills us cs
      → (o : ℕ) × ((vs ≡ length ts ∷ o ∷ []) × Steps s 0 ts cs o)
  bulk_steps places vs us ts cs e f =
      let r = read_list s places vs (intervals 0 (words_of s)) ts e in
      let q = read_list s places us (closing_numbers 0 (words_of s)) cs f in
      (open_time 0 (words_of s), (rw r.1.1 r.1.0, rw (r.1.1, q.1.1) (steps s 0 r.0)))

  -- flux that is not refused by its length is not refused with 17
  stepped : {n o : ℕ} {ts cs : List ℕ} → Steps s n ts cs o → step_at s n ≡ refused words_refused 0 → ⊥
  stepped (at_end e) h = let z : ◌≡◌ {A = ℕ} 0 1 = cc in omega arith
  stepped (step e r) h = let z : ◌≡◌ {A = ℕ} 0 1 = cc in omega arith

  both_refused : (x : Bool) (n places : ℕ) → bad_flux_size (length s) ≡ x
      → (step_at s n ≡ refused words_refused 0) ↔ (reading s places ≡ refuses words_refused 0)
  both_refused true n places q = (λ _. simp q, λ _. simp q)
  both_refused false n places q =
      let ts = intervals 0 (words_of s) in (
        λ e. absurd (stepped (steps s n q) e),
        λ e. absurd (places_only places (length ts ∷ open_time 0 (words_of s) ∷ []) ts 0 (rw q at e)),
      )

pub steps_and_bulk : (s : List ℕ) → StepsAndBulk s
steps_and_bulk s = record { given = bulk_steps s; words = λ n places. both_refused s (bad_flux_size (length s)) n places refl }
