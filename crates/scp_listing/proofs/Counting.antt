-- What is counted up to a word, and what is left from there, make up the whole; a step moves one interval over.
use Rattle.std.proofs.Common.{◌≡◌, ℕ, ◌+◌, ◌-◌, ◌<◌, ◌≤◌, false, List, [], ◌∷◌, length, drop, sym, refl, ap, ◌∙◌, arith, drop_of_length-le}
use Rattle.flux.specs.Coding.{words_of, bad_flux_size}
use Rattle.flux.specs.Reading.{intervals, open_time, closing_numbers}
use Rattle.flux.specs.Answers.{Answer, refused, gives, step_from, step_at}
use Rattle.flux.proofs.WordLaws.{length_words}
use Rattle.flux_theorems.proofs.Stepping.{Found, closes, ends, found}
use Rattle.scp_listing.specs.Counting.{last_of, Counts}

-- n intervals are counted before the word, and l is the last closing word; `left` steps are enough for the rest.
pub record Left (s : List ℕ) (word n l left : ℕ) : Type 0 where
  pub count : n + length (intervals 0 (drop word (words_of s))) ≡ length (intervals 0 (words_of s))
  pub open_ticks : open_time 0 (drop word (words_of s)) ≡ open_time 0 (words_of s)
  pub last : last_of l (closing_numbers word (drop word (words_of s))) ≡ last_of 0 (closing_numbers 0 (words_of s))
  pub enough : length (words_of s) ≤ word + (left - 1)

pub left_start : (s : List ℕ) → Left s 0 0 0 (length s)
left_start s =
    let w = length_words s in
    record { count = omega arith; open_ticks = refl; last = refl; enough = omega arith }

-- all steps are made, so that no word is left
pub left_none : (s : List ℕ) {word n l : ℕ} → Left s word n l 0 → Counts s n 0 l
unfolding intervals open_time closing_numbers last_of
left_none s {word} {n} {l} h =
    let k : length (words_of s) ≤ word = omega (arith, h.enough) in
    let d = drop_of_length-le (words_of s) k in
    record {
      count = let e = rw d at h.count in omega arith;
      open_ticks = rw d at h.open_ticks;
      last = rw d at h.last;
    }

-- the words left from a word on, where an interval of them is closed
module _ (s : List ℕ) (word m c t n l left : ℕ) (more : word < m) (some : 0 < left)
    (i : intervals 0 (drop word (words_of s)) ≡ t ∷ intervals 0 (drop m (words_of s)))
    (k : closing_numbers word (drop word (words_of s)) ≡ c ∷ closing_numbers m (drop m (words_of s)))
    (o : open_time 0 (drop word (words_of s)) ≡ open_time 0 (drop m (words_of s)))
    (h : Left s word n l left) where
  moved : Left s m (n + 1) c (left - 1)
  unfolding last_of
  moved =
      let size = ap length i in
      record {
        count = omega (arith, h.count);
        open_ticks = sym o ∙ h.open_ticks;
        last = rw k at h.last;
        enough = omega (arith, h.enough);
      }

module _ (s : List ℕ) (good : bad_flux_size (length s) ≡ false) (word : ℕ) where
  -- what a step found, by what it answers
  step_is : {a : Answer} → a ≡ step_at s word → step_from word 0 word (drop word (words_of s)) ≡ a
  step_is e = sym (e ∙ simp good)

  at_word : Found (words_of s) word 0 word (drop word (words_of s))
  at_word = found (words_of s) word 0 word (drop word (words_of s)) refl

  pub never_refused : (k i : ℕ) → refused k i ≡ step_at s word → ⊥
  never_refused k i e = go (step_is e) at_word
    where
      go : step_from word 0 word (drop word (words_of s)) ≡ refused k i → Found (words_of s) word 0 word (drop word (words_of s)) → ⊥
      go q (closes t m c l f i k o) = let z : ◌≡◌ {A = ℕ} 0 1 = cc in omega arith
      go q (ends f i k) = let z : ◌≡◌ {A = ℕ} 0 1 = cc in omega arith

  pub left_step : (t o m c n l left : ℕ) → gives (t ∷ o ∷ m ∷ c ∷ []) ≡ step_at s word → 0 < left → Left s word n l left → Left s m (n + 1) c (left - 1)
  left_step t o m c n l left e some h = go (step_is e) at_word
    where
      go : step_from word 0 word (drop word (words_of s)) ≡ gives (t ∷ o ∷ m ∷ c ∷ []) → Found (words_of s) word 0 word (drop word (words_of s))
          → Left s m (n + 1) c (left - 1)
      go q (closes t' m' c' more f i k r) =
          let em : m' ≡ m = cc in
          let ec : c' ≡ c = cc in
          rw (← em, ← ec) (moved s word m' c' t' n l left more some i k r h)
      go q (ends f i k) = let z : ◌≡◌ {A = ℕ} 0 1 = cc in absurd (omega arith)

  pub left_open : (o m n l left : ℕ) → gives (o ∷ m ∷ []) ≡ step_at s word → Left s word n l left → Counts s n o l
  left_open o m n l left e h = go (step_is e) at_word
    where
      go : step_from word 0 word (drop word (words_of s)) ≡ gives (o ∷ m ∷ []) → Found (words_of s) word 0 word (drop word (words_of s)) → Counts s n o l
      go q (closes t' m' c' more f i k r) = let z : ◌≡◌ {A = ℕ} 0 1 = cc in absurd (omega arith)
      go q (ends f i k) =
          let eo : open_time 0 (drop word (words_of s)) ≡ o = cc in
          record {
            count = let e = rw i at h.count in omega arith;
            open_ticks = sym eo ∙ h.open_ticks;
            last = unfold last_of in (rw k at h.last);
          }
