-- The words of some bytes, as the pairs of bytes are read; and the definitions of reading at word i of some words: where it is zero, where it is not,
-- and past the last word.
use mathlib.Core.Path.{◌≡◌, refl, sym, ap, ap₂, ◌∙◌}
use Prim.Native.Nat.{ℕ, zero, suc, ◌+◌, ◌*◌, ◌/◌, ◌%◌, ◌<◌, ◌≤◌}
use native.Mathlib.Omega.{arith}
use mathlib.Core.List.{List, [], ◌∷◌}
use mathlib.Core.Bool.{Bool, true, false, not, ◌||◌}
use native.Mathlib.Numerals.{add-one}
use lib.ListN.{length, get_or, drop, drop_of_length-le}
use lib.Seq.{drop-cons}
use lib.Dec.{ltb, eqb, eqb-suc-zero}
use borrow.Author.Tests.{ltb-false, eqb-false}
use Rattle.std.specs.Int.{w16, from_be_bytes, from_bool}
use Rattle.std.specs.Prelude.{map}
use Rattle.std.specs.Simd.{first_chunks}
use Rattle.std.proofs.lemmas.List.{length-map, get_or-map}
use Rattle.flux.specs.Coding.{words_of, bad_flux_size, flux_limit}
use Rattle.flux.specs.Reading.{zero_ticks, intervals, open_time, closing_words, total_ticks, closing_numbers}
use Rattle.flux.specs.Answers.{gives, step_from}

pub length_words : (s : List ℕ) → length (words_of s) ≡ length s / 2
unfolding words_of
length_words [] = refl
length_words (a ∷ []) = refl
length_words (a ∷ b ∷ s) = let ih = length_words s in omega arith

-- w is the word of number i of the words ws
pub record WordAt (ws : List ℕ) (i w : ℕ) : Type 0 where
  pub there : i < length ws
  pub same : w ≡ get_or ws i 0

-- the pairs of the bytes s, read one after the other, are its words
pair_words : (s : List ℕ) → map (from_be_bytes w16) (first_chunks 2 (length s / 2) s) ≡ words_of s
unfolding words_of
pair_words [] = refl
pair_words (a ∷ []) = refl
pair_words (a ∷ b ∷ s) =
    let e : suc (suc (length s)) / 2 ≡ suc (length s / 2) = omega arith in
    let f : a * 256 + b ≡ 256 * a + b = omega arith in
    rw e (ap₂ ◌∷◌ f (pair_words s))

module _ (s : List ℕ) (ps : List (List ℕ)) (pairs : ps ≡ first_chunks 2 (length s / 2) s) where
  read_words : map (from_be_bytes w16) ps ≡ words_of s
  read_words = ap (map (from_be_bytes w16)) pairs ∙ pair_words s

  many : length ps ≡ length (words_of s)
  many = sym (length-map ps (from_be_bytes w16)) ∙ ap length read_words

  pub word_read : {i w : ℕ} → i < length ps → w ≡ from_be_bytes w16 (get_or ps i []) → WordAt (words_of s) i w
  word_read {i} {w} h e =
      let n = many in
      record { there = omega arith; same = e ∙ sym (get_or-map (from_be_bytes w16) ps i [] 0 h) ∙ ap (λ (ws : List ℕ). get_or ws i 0) read_words }

  pub no_more : {i : ℕ} → length ps ≤ i → length (words_of s) ≤ i
  no_more h = let n = many in omega arith

-- a word counts at most once
pub at_most_one : (b : Bool) → from_bool b ≤ 1
at_most_one true = omega arith
at_most_one false = omega arith

-- ---- the definitions at a word that is not zero; at a zero they compute

intervals_word : (ws : List ℕ) (w p : ℕ) → (w ≡ 0 → ⊥) → intervals p (w ∷ ws) ≡ (p + w) ∷ intervals 0 ws
unfolding intervals
intervals_word ws zero p h = absurd (h refl)
intervals_word ws (suc w) p h = refl

open_word : (ws : List ℕ) (w p : ℕ) → (w ≡ 0 → ⊥) → open_time p (w ∷ ws) ≡ open_time 0 ws
unfolding open_time
open_word ws zero p h = absurd (h refl)
open_word ws (suc w) p h = refl

closing_word : (ws : List ℕ) (w : ℕ) → closing_words (w ∷ ws) ≡ from_bool (not (eqb w 0)) + closing_words ws
unfolding closing_words
closing_word ws zero = omega arith
closing_word ws (suc w) = simp (eqb-suc-zero w) (omega arith)

total_word : (ws : List ℕ) (w : ℕ) → (w ≡ 0 → ⊥) → total_ticks (w ∷ ws) ≡ w + total_ticks ws
unfolding total_ticks
total_word ws zero h = absurd (h refl)
total_word ws (suc w) h = refl

number_word : (ws : List ℕ) (w n : ℕ) → (w ≡ 0 → ⊥) → closing_numbers n (w ∷ ws) ≡ n ∷ closing_numbers (n + 1) ws
unfolding closing_numbers
number_word ws zero n h = absurd (h refl)
number_word ws (suc w) n h = refl

step_word : (ws : List ℕ) (w from p n : ℕ) → (w ≡ 0 → ⊥) → step_from from p n (w ∷ ws) ≡ gives ((p + w) ∷ 0 ∷ (n + 1) ∷ n ∷ [])
unfolding step_from
step_word ws zero from p n h = absurd (h refl)
step_word ws (suc w) from p n h = refl

-- ---- at word i of the words ws, which is w

module _ {ws : List ℕ} {i w : ℕ} (at : WordAt ws i w) where
  drop_w : drop i ws ≡ w ∷ drop (i + 1) ws
  drop_w = rw (at.same, add-one) (drop-cons ws i 0 at.there)

  pub closing_more : closing_words (drop i ws) ≡ from_bool (not (eqb w 0)) + closing_words (drop (i + 1) ws)
  closing_more = rw drop_w (closing_word (drop (i + 1) ws) w)

  module _ (z : w ≡ 0) where
    drop_zero : drop i ws ≡ 0 ∷ drop (i + 1) ws
    drop_zero = rw z at drop_w

    pub intervals_zero : (p : ℕ) → intervals p (drop i ws) ≡ intervals (p + zero_ticks) (drop (i + 1) ws)
    unfolding intervals
    intervals_zero p = rw drop_zero refl

    pub open_zero : (p : ℕ) → open_time p (drop i ws) ≡ open_time (p + zero_ticks) (drop (i + 1) ws)
    unfolding open_time
    open_zero p = rw drop_zero refl

    pub total_zero : total_ticks (drop i ws) ≡ zero_ticks + total_ticks (drop (i + 1) ws)
    unfolding total_ticks
    total_zero = rw drop_zero refl

    pub number_zero : closing_numbers i (drop i ws) ≡ closing_numbers (i + 1) (drop (i + 1) ws)
    unfolding closing_numbers
    number_zero = rw drop_zero refl

    pub step_zero : (from p : ℕ) → step_from from p i (drop i ws) ≡ step_from from (p + zero_ticks) (i + 1) (drop (i + 1) ws)
    unfolding step_from
    step_zero from p = rw drop_zero refl

  module _ (z : w ≡ 0 → ⊥) where
    pub intervals_close : (p : ℕ) → intervals p (drop i ws) ≡ (p + w) ∷ intervals 0 (drop (i + 1) ws)
    intervals_close p = rw drop_w (intervals_word (drop (i + 1) ws) w p z)

    pub open_close : (p : ℕ) → open_time p (drop i ws) ≡ open_time 0 (drop (i + 1) ws)
    open_close p = rw drop_w (open_word (drop (i + 1) ws) w p z)

    pub total_close : total_ticks (drop i ws) ≡ w + total_ticks (drop (i + 1) ws)
    total_close = rw drop_w (total_word (drop (i + 1) ws) w z)

    pub number_close : closing_numbers i (drop i ws) ≡ i ∷ closing_numbers (i + 1) (drop (i + 1) ws)
    number_close = rw drop_w (number_word (drop (i + 1) ws) w i z)

    pub step_close : (from p : ℕ) → step_from from p i (drop i ws) ≡ gives ((p + w) ∷ 0 ∷ (i + 1) ∷ i ∷ [])
    step_close from p = rw drop_w (step_word (drop (i + 1) ws) w from p i z)

-- ---- past the last word

module _ (ws : List ℕ) (i : ℕ) (h : length ws ≤ i) where
  pub intervals_end : (p : ℕ) → intervals p (drop i ws) ≡ []
  unfolding intervals
  intervals_end p = rw (drop_of_length-le ws h) refl

  pub open_end : (p : ℕ) → open_time p (drop i ws) ≡ p
  unfolding open_time
  open_end p = rw (drop_of_length-le ws h) refl

  pub closing_end : closing_words (drop i ws) ≡ 0
  unfolding closing_words
  closing_end = rw (drop_of_length-le ws h) refl

  pub total_end : total_ticks (drop i ws) ≡ 0
  unfolding total_ticks
  total_end = rw (drop_of_length-le ws h) refl

  pub number_end : closing_numbers i (drop i ws) ≡ []
  unfolding closing_numbers
  number_end = rw (drop_of_length-le ws h) refl

  pub step_end : (from p : ℕ) → step_from from p i (drop i ws) ≡ gives (p ∷ from ∷ [])
  unfolding step_from
  step_end from p = rw (drop_of_length-le ws h) refl

-- ---- flux that is not refused is even and within the limit

or_false : (x y : Bool) → x || y ≡ false → (x ≡ false) × (y ≡ false)
or_false true y e = let z : ◌≡◌ {A = ℕ} 0 1 = cc in absurd (omega arith)
or_false false y e = (refl, e)

pub record GoodSize (n : ℕ) : Type 0 where
  pub even : n % 2 ≡ 0
  pub limit : n ≤ flux_limit

pub good_size : (n : ℕ) → bad_flux_size n ≡ false → GoodSize n
good_size n h =
    let r = or_false (eqb (n % 2) 1) (ltb flux_limit n) h in
    let o = eqb-false (n % 2) 1 r.0 in
    record { even = omega arith; limit = ltb-false flux_limit n r.1 }
