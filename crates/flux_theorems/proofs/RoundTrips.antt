-- From times to words and back, and from words to times and back.
use mathlib.Core.Path.{◌≡◌, refl, ap, ap₂, ◌∙◌}
use Prim.Native.Nat.{ℕ, zero, suc, ◌+◌, ◌*◌, ◌/◌, ◌%◌, ◌<◌, ◌≤◌}
use native.Mathlib.Omega.{arith}
use mathlib.Core.List.{List, [], ◌∷◌, ◌++◌, append_assoc}
use mathlib.Core.Bool.{Bool, true, false, cond}
use lib.ListN.{length, get_or, replicate}
use borrow.Author.Tests.{le-ltb, ne_eqb}
use Rattle.octets.specs.Numbers.{Octets, be16}
use Rattle.flux.specs.Coding.{words_of, bytes_of, Words}
use Rattle.flux.specs.Reading.{zero_ticks, intervals, open_time}
use Rattle.flux.specs.Writing.{tick_limit, expressible, words_for_time, words_for, first_inexpressible}
use Rattle.flux_theorems.specs.Theorems.{TimesReadBack, WordsWriteBack}
use Rattle.flux.proofs.WordLaws.{good_size}
use Rattle.flux.proofs.TimeLaws.{Expressible, expressed, expressing, length_bytes}

-- ---- words and bytes

words_bytes : (ws : List ℕ) → words_of (bytes_of ws) ≡ ws
unfolding words_of bytes_of
words_bytes [] = refl
words_bytes (w ∷ ws) =
    let e : be16 (w / 256) (w % 256) ≡ w = omega arith in
    ap₂ (λ (x : ℕ) (xs : List ℕ). x ∷ xs) e (words_bytes ws)

bytes_words : (s : List ℕ) → length s % 2 ≡ 0 → Octets s → bytes_of (words_of s) ≡ s
unfolding words_of bytes_of
bytes_words [] h b = refl
bytes_words (x ∷ []) h b = absurd (omega arith)
bytes_words (x ∷ y ∷ s) h b =
    let hx : x < 256 = b 0 in
    let hy : y < 256 = b 1 in
    let e : be16 x y / 256 ≡ x = omega arith in
    let f : be16 x y % 256 ≡ y = omega arith in
    rw (e, f, bytes_words s (omega arith) (λ i. b (suc (suc i)))) refl

pub words_of_lem : (s : List ℕ) → Octets s → Words (words_of s)
unfolding words_of
words_of_lem [] b i = omega arith
words_of_lem (x ∷ []) b i = omega arith
words_of_lem (x ∷ y ∷ s) b zero =
    let hx : x < 256 = b 0 in
    let hy : y < 256 = b 1 in
    omega arith
words_of_lem (x ∷ y ∷ s) b (suc i) = words_of_lem s (λ j. b (suc (suc j))) i

-- ---- from times to words and back

-- zero words, and then one that is not
module _ (ws : List ℕ) where
  zeros_close : (z p w : ℕ) → 0 < w → intervals p (replicate z 0 ++ (w ∷ ws)) ≡ (p + zero_ticks * z + w) ∷ intervals 0 ws
  unfolding intervals
  zeros_close zero p zero h = absurd (omega arith)
  zeros_close zero p (suc w) h = let e : p + zero_ticks * 0 + suc w ≡ p + suc w = omega arith in rw e refl
  zeros_close (suc z) p w h =
      let e : p + zero_ticks + zero_ticks * z + w ≡ p + zero_ticks * suc z + w = omega arith in
      zeros_close z (p + zero_ticks) w h ∙ ap (λ (x : ℕ). x ∷ intervals 0 ws) e

  zeros_open : (z p w : ℕ) → 0 < w → open_time p (replicate z 0 ++ (w ∷ ws)) ≡ open_time 0 ws
  unfolding open_time
  zeros_open zero p zero h = absurd (omega arith)
  zeros_open zero p (suc w) h = refl
  zeros_open (suc z) p w h = zeros_open z (p + zero_ticks) w h

-- the words of a time that can be expressed read as that time, and then as what follows them
module _ (t : ℕ) (ws : List ℕ) (h : Expressible t) where
  words_then : words_for_time t ++ ws ≡ replicate (t / zero_ticks) 0 ++ (t % zero_ticks ∷ ws)
  words_then = append_assoc (replicate (t / zero_ticks) 0) (t % zero_ticks ∷ []) ws

  pub time_closes : intervals 0 (words_for_time t ++ ws) ≡ t ∷ intervals 0 ws
  time_closes =
      let e : 0 + zero_ticks * (t / zero_ticks) + t % zero_ticks ≡ t = omega arith in
      rw words_then (zeros_close ws (t / zero_ticks) 0 (t % zero_ticks) h.remainder ∙ ap (λ (x : ℕ). x ∷ intervals 0 ws) e)

  pub time_opens_nothing : open_time 0 (words_for_time t ++ ws) ≡ open_time 0 ws
  time_opens_nothing = rw words_then (zeros_open ws (t / zero_ticks) 0 (t % zero_ticks) h.remainder)

-- of times that can all be expressed the first can, and so can the others
record AllExpressible (t : ℕ) (ts : List ℕ) : Type 0 where
  first : Expressible t
  others : first_inexpressible ts ≡ length ts

all_expressible : (t : ℕ) (ts : List ℕ) → first_inexpressible (t ∷ ts) ≡ suc (length ts) → AllExpressible t ts
unfolding first_inexpressible
all_expressible t ts e = go (expressible t) refl e
  where
    go : (x : Bool) → expressible t ≡ x → cond x (suc (first_inexpressible ts)) 0 ≡ suc (length ts) → AllExpressible t ts
    go true q h = record { first = expressed t q; others = omega arith }
    go false q h = absurd (omega arith)

times_back : (ts : List ℕ) → first_inexpressible ts ≡ length ts → intervals 0 (words_for ts) ≡ ts
unfolding words_for
times_back [] h = unfold intervals in refl
times_back (t ∷ ts) h =
    let g = all_expressible t ts h in
    time_closes t (words_for ts) g.first ∙ ap (λ (xs : List ℕ). t ∷ xs) (times_back ts g.others)

times_open : (ts : List ℕ) → first_inexpressible ts ≡ length ts → open_time 0 (words_for ts) ≡ 0
unfolding words_for
times_open [] h = unfold open_time in refl
times_open (t ∷ ts) h =
    let g = all_expressible t ts h in
    time_opens_nothing t (words_for ts) g.first ∙ times_open ts g.others

pub times_read_back : TimesReadBack
times_read_back ts g l =
    let n = length_bytes (words_for ts) in
    let odd : length (bytes_of (words_for ts)) % 2 ≡ 1 → ⊥ = λ e. omega arith in
    let room : length ts ≤ length ts = omega arith in
    simp (ne_eqb _ _ odd, le-ltb _ _ l, words_bytes, times_back ts g, times_open ts g, le-ltb _ _ room)

-- ---- from words to times and back

zeros_snoc : (k : ℕ) (ws : List ℕ) → replicate {A = ℕ} (suc k) 0 ++ ws ≡ replicate k 0 ++ (0 ∷ ws)
zeros_snoc zero ws = refl
zeros_snoc (suc k) ws = ap (λ (xs : List ℕ). 0 ∷ xs) (zeros_snoc k ws)

-- with the ticks of k zero words pending, those words are written first
words_back : (k : ℕ) (ws : List ℕ) → Words ws → open_time (zero_ticks * k) ws ≡ 0 → words_for (intervals (zero_ticks * k) ws) ≡ replicate k 0 ++ ws
unfolding intervals open_time words_for
words_back zero [] b o = refl
words_back (suc k) [] b o = absurd (omega arith)
words_back k (zero ∷ ws) b o =
    let e : zero_ticks * k + zero_ticks ≡ zero_ticks * suc k = omega arith in
    rw e (words_back (suc k) ws (λ i. b (suc i)) (rw (← e) o) ∙ zeros_snoc k ws)
words_back k (suc w ∷ ws) b o =
    let hw : suc w < 65_536 = b 0 in
    let e : (zero_ticks * k + suc w) / zero_ticks ≡ k = omega arith in
    let f : (zero_ticks * k + suc w) % zero_ticks ≡ suc w = omega arith in
    let ih = words_back 0 ws (λ i. b (suc i)) o in
    rw (e, f) (append_assoc (replicate k 0) (suc w ∷ []) (words_for (intervals 0 ws)) ∙ ap (λ (xs : List ℕ). replicate k 0 ++ (suc w ∷ xs)) ih)

-- the intervals of words can be expressed where they are within the limit
all_expressed : (k : ℕ) (ws : List ℕ) → Words ws → ((i : ℕ) → get_or (intervals (zero_ticks * k) ws) i 0 ≤ tick_limit)
    → first_inexpressible (intervals (zero_ticks * k) ws) ≡ length (intervals (zero_ticks * k) ws)
unfolding intervals first_inexpressible
all_expressed k [] b l = refl
all_expressed k (zero ∷ ws) b l =
    let e : zero_ticks * k + zero_ticks ≡ zero_ticks * suc k = omega arith in
    rw e (all_expressed (suc k) ws (λ i. b (suc i)) (rw e at l))
all_expressed k (suc w ∷ ws) b l =
    let hw : suc w < 65_536 = b 0 in
    let limit : zero_ticks * k + suc w ≤ tick_limit = l 0 in
    let good = expressing (zero_ticks * k + suc w) (record { limit = limit; remainder = omega arith }) in
    simp good (ap suc (all_expressed 0 ws (λ i. b (suc i)) (λ i. l (suc i))))

pub words_write_back : WordsWriteBack
words_write_back s b size o l =
    let ws = words_of_lem s b in
    let good = all_expressed 0 (words_of s) ws l in
    let room : length s ≤ length s = omega arith in
    let all : length (intervals 0 (words_of s)) ≤ length (intervals 0 (words_of s)) = omega arith in
    simp (good, le-ltb _ _ all, words_back 0 (words_of s) ws o, bytes_words s (good_size _ size).even b, le-ltb _ _ room)
