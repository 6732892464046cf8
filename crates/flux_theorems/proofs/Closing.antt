-- The numbers of the closing words are the indices of the words that are not zero, in order, and so each is the word that closes its interval;
-- a second list for them leaves the bulk call as it is.
use mathlib.Core.Path.{◌≡◌, refl, sym, ap, ◌∙◌}
use mathlib.Core.Logic.{◌⊎◌, inl, inr}
use Prim.Native.Nat.{ℕ, zero, suc, ◌+◌, ◌<◌, ◌≤◌, min}
use native.Mathlib.Omega.{arith}
use mathlib.Core.List.{List, [], ◌∷◌}
use mathlib.Core.Bool.{Bool, true, false, cond}
use lib.ListN.{length, take, drop, get_or}
use lib.Dec.{ltb}
use borrow.Author.Tests.{lt-ltb, le-ltb, ltb-true, ltb-false}
use Rattle.octets.specs.Sums.{sum_of}
use Rattle.flux.specs.Coding.{words_of, bad_flux_size}
use Rattle.flux.specs.Reading.{zero_ticks, intervals, open_time, closing_words, total_ticks, closing_numbers}
use Rattle.flux.specs.Answers.{places_refused, words_refused, gives, refuses, fills, answer_of, reading, closing_reading}
use Rattle.flux.proofs.Counting.{counted, as_many}
use Rattle.flux.proofs.AnswerLaws.{list_short, list_fits}
use Rattle.flux_theorems.specs.Theorems.{Closes, NumbersClosingWords, TwoLists}

-- ---- which words close

-- Word c closes interval i of these words, where the first has number n and p ticks are pending before it.
record ClosesFrom (n p : ℕ) (ws : List ℕ) (i : ℕ) : Type 0 where
  c : ℕ
  number : get_or (closing_numbers n ws) i 0 ≡ n + c
  there : c < length ws
  closing : get_or ws c 0 ≡ 0 → ⊥
  before : closing_words (take c ws) ≡ i
  ticks : p + total_ticks (take (suc c) ws) ≡ sum_of (take (suc i) (intervals p ws))

closes_from : (n p : ℕ) (ws : List ℕ) (i : ℕ) → i < closing_words ws → ClosesFrom n p ws i
unfolding closing_numbers closing_words total_ticks intervals sum_of
closes_from n p [] i h = absurd (omega arith)
closes_from n p (zero ∷ ws) i h =
    let r = closes_from (n + 1) (p + zero_ticks) ws i h in
    record {
      c = suc r.c;
      number = r.number ∙ omega arith;
      there = omega (arith, r.there);
      closing = r.closing;
      before = r.before;
      ticks = let e = r.ticks in omega arith;
    }
closes_from n p (suc w ∷ ws) zero h =
    record {
      c = 0;
      number = omega arith;
      there = omega arith;
      closing = λ e. omega arith;
      before = refl;
      ticks = omega arith;
    }
closes_from n p (suc w ∷ ws) (suc i) h =
    let r = closes_from (n + 1) 0 ws i (omega arith) in
    record {
      c = suc r.c;
      number = r.number ∙ omega arith;
      there = omega (arith, r.there);
      closing = r.closing;
      before = ap suc r.before;
      ticks = let e = r.ticks in omega arith;
    }

all_from : (n : ℕ) (ws : List ℕ) (c : ℕ) → c < length ws → (get_or ws c 0 ≡ 0 → ⊥) → get_or (closing_numbers n ws) (closing_words (take c ws)) 0 ≡ n + c
unfolding closing_numbers closing_words
all_from n [] c h z = absurd (omega arith)
all_from n (zero ∷ ws) zero h z = absurd (z refl)
all_from n (zero ∷ ws) (suc c) h z = all_from (n + 1) ws c (omega arith) z ∙ omega arith
all_from n (suc w ∷ ws) zero h z = omega arith
all_from n (suc w ∷ ws) (suc c) h z = all_from (n + 1) ws c (omega arith) z ∙ omega arith

-- the numbers from word n on, where the first word has number k
numbers_from_lem : (k n : ℕ) (ws : List ℕ) → closing_numbers (k + n) (drop n ws) ≡ drop (closing_words (take n ws)) (closing_numbers k ws)
unfolding closing_numbers closing_words
numbers_from_lem k zero ws = let e : k + 0 ≡ k = omega arith in rw e refl
numbers_from_lem k (suc n) [] = refl
numbers_from_lem k (suc n) (zero ∷ ws) = let e : k + suc n ≡ k + 1 + n = omega arith in rw e (numbers_from_lem (k + 1) n ws)
numbers_from_lem k (suc n) (suc w ∷ ws) = let e : k + suc n ≡ k + 1 + n = omega arith in rw e (numbers_from_lem (k + 1) n ws)

-- the words from the first on, with nothing pending
closes : (ws : List ℕ) (i : ℕ) → ClosesFrom 0 0 ws i → Closes ws i (get_or (closing_numbers 0 ws) i 0)
closes ws i r =
    let e : get_or (closing_numbers 0 ws) i 0 ≡ r.c = r.number ∙ omega arith in
    let t = r.ticks in
    rw e (record { there = r.there; closing = r.closing; before = r.before; ticks = omega arith })

pub numbers_closing_words : (ws : List ℕ) → NumbersClosingWords ws
numbers_closing_words ws =
    record {
      count = as_many ws;
      each = λ i h. closes ws i (closes_from 0 0 ws i (rw counted at h));
      all = λ c h z. all_from 0 ws c h z ∙ omega arith;
      from = λ n. let e : 0 + n ≡ n = omega arith in ap (λ (k : ℕ). closing_numbers k (drop n ws)) (sym e) ∙ numbers_from_lem 0 n ws;
    }

-- ---- the bulk call with a second list

-- what is answered is decided by two tests, and by how long the list is that is filled
alike : (x y : Bool) (xs ys : List ℕ) (o : ℕ) → length xs ≡ length ys
    → answer_of (cond x (refuses words_refused 0) (cond y (refuses places_refused 0) (fills (length xs ∷ o ∷ []) xs)))
    ≡ answer_of (cond x (refuses words_refused 0) (cond y (refuses places_refused 0) (fills (length ys ∷ o ∷ []) ys)))
alike true y xs ys o e = refl
alike false true xs ys o e = refl
alike false false xs ys o e = ap (λ (n : ℕ). gives (n ∷ o ∷ [])) e

pub closing_alike : (s : List ℕ) (places : ℕ) → answer_of (closing_reading s places) ≡ answer_of (reading s places)
closing_alike s places =
    let ts = intervals 0 (words_of s) in
    let cs = closing_numbers 0 (words_of s) in
    let many = as_many (words_of s) in
    ap (λ (n : ℕ). answer_of (cond (bad_flux_size (length s)) (refuses words_refused 0) (cond (ltb places n) (refuses places_refused 0) (fills (length cs ∷ open_time 0 (words_of s) ∷ []) cs)))) many
    ∙ alike (bad_flux_size (length s)) (ltb places (length ts)) cs ts (open_time 0 (words_of s)) many

module _ (s : List ℕ) (m n : ℕ) where
  -- the intervals, and how many they are
  abbrev times : List ℕ
  times = intervals 0 (words_of s)

  abbrev need : ℕ
  need = length times

  many : length (closing_numbers 0 (words_of s)) ≡ need
  many = as_many (words_of s)

  -- with places enough in the second list, those of the first decide
  same_test : need ≤ n → ltb (min m n) need ≡ ltb m need
  same_test h = go (ltb m need) refl
    where
      go : (x : Bool) → ltb m need ≡ x → ltb (min m n) need ≡ x
      go true e = let l = ltb-true m need e in let k : min m n < need = omega arith in lt-ltb _ _ k
      go false e = let l = ltb-false m need e in let k : need ≤ min m n = omega arith in le-ltb _ _ k

  plain : length (closing_numbers 0 (words_of s)) ≤ n → reading s (min m n) ≡ reading s m
  plain h =
      let k : need ≤ n = omega (arith, many) in
      ap (λ (b : Bool). cond (bad_flux_size (length s)) (refuses words_refused 0) (cond b (refuses places_refused 0) (fills (need ∷ open_time 0 (words_of s) ∷ []) times)))
      (same_test k)

  module _ (good : bad_flux_size (length s) ≡ false) where
    short_refused : (m < need) ⊎ (n < length (closing_numbers 0 (words_of s))) → reading s (min m n) ≡ refuses places_refused 0
    short_refused (inl h) = let k : min m n < need = omega arith in list_short s (min m n) times good k
    short_refused (inr h) = let k : min m n < need = omega (arith, many) in list_short s (min m n) times good k

    refused_short : reading s (min m n) ≡ refuses places_refused 0 → (m < need) ⊎ (n < length (closing_numbers 0 (words_of s)))
    refused_short e = go (ltb m need) (ltb n need) refl refl
      where
        go : (x y : Bool) → ltb m need ≡ x → ltb n need ≡ y → (m < need) ⊎ (n < length (closing_numbers 0 (words_of s)))
        go true y a b = inl (ltb-true m need a)
        go false true a b = let h = ltb-true n need b in inr (omega (arith, many))
        go false false a b =
            let l = ltb-false m need a in
            let h = ltb-false n need b in
            let k : need ≤ min m n = omega arith in
            let fits = list_fits s (min m n) times good k in
            let z : ◌≡◌ {A = ℕ} 0 1 = cc in
            absurd (omega arith)

pub two_lists : (s times closings : List ℕ) → TwoLists s times closings
two_lists s times closings =
    record {
      plain = plain s (length times) (length closings);
      short = λ good. (refused_short s (length times) (length closings) good, short_refused s (length times) (length closings) good);
      together = closing_alike s (min (length times) (length closings));
    }
