-- The definitions of writing at the time of number i of some times, and past the last time.
use mathlib.Core.Path.{◌≡◌, refl, ap}
use Prim.Native.Nat.{ℕ, zero, suc, ◌+◌, ◌*◌, ◌/◌, ◌%◌, ◌<◌, ◌≤◌}
use native.Mathlib.Omega.{arith}
use native.Mathlib.Numerals.{add-one}
use mathlib.Core.List.{List, [], ◌∷◌, ◌++◌, append_assoc}
use mathlib.Core.Bool.{true, false, not, ◌&&◌, and-eq-true_iff}
use lib.ListN.{length, get_or, drop, replicate, length-append, length-replicate, drop_of_length-le}
use lib.Seq.{drop-cons}
use lib.Dec.{leb, eqb}
use borrow.Author.Tests.{leb-true, le-leb, eqb-false, ne_eqb, not-true}
use Rattle.octets.specs.Numbers.{be16_bytes}
use Rattle.flux.specs.Coding.{bytes_of}
use Rattle.flux.specs.Reading.{zero_ticks}
use Rattle.flux.specs.Writing.{tick_limit, expressible, words_for, first_inexpressible}

-- ---- what it takes to be expressible

pub record Expressible (t : ℕ) : Type 0 where
  pub limit : t ≤ tick_limit
  pub remainder : 0 < t % zero_ticks

pub expressed : (t : ℕ) → expressible t ≡ true → Expressible t
expressed t e =
    let lower = (and-eq-true_iff (leb 1 t) (leb t tick_limit && not (eqb (t % zero_ticks) 0))).0 e in
    let upper = (and-eq-true_iff (leb t tick_limit) (not (eqb (t % zero_ticks) 0))).0 lower.1 in
    let multiple = eqb-false (t % zero_ticks) 0 (not-true _ upper.1) in
    record { limit = leb-true t tick_limit upper.0; remainder = omega arith }

pub expressing : (t : ℕ) → Expressible t → expressible t ≡ true
expressing t h =
    let lower : 1 ≤ t = omega arith in
    let remainder = h.remainder in
    let multiple : t % zero_ticks ≡ 0 → ⊥ = λ e. omega arith in
    simp (le-leb 1 t lower, le-leb t tick_limit h.limit, ne_eqb (t % zero_ticks) 0 multiple)

-- ---- the bytes of words

pub length_bytes : (ws : List ℕ) → length (bytes_of ws) ≡ 2 * length ws
unfolding bytes_of
length_bytes [] = refl
length_bytes (w ∷ ws) = let ih = length_bytes ws in omega arith

zero_bytes : (z : ℕ) (ws : List ℕ) → bytes_of (replicate z 0 ++ ws) ≡ replicate (2 * z) 0 ++ bytes_of ws
unfolding bytes_of
zero_bytes zero ws = refl
zero_bytes (suc z) ws =
    let e : 2 * suc z ≡ suc (suc (2 * z)) = omega arith in
    rw e (ap (λ (s : List ℕ). 0 ∷ 0 ∷ s) (zero_bytes z ws))

-- ---- at time i

module _ (ts : List ℕ) (i : ℕ) (h : i < length ts) where
  drop_time : drop i ts ≡ get_or ts i 0 ∷ drop (i + 1) ts
  drop_time = rw (add-one, drop-cons ts i 0 h) refl

  pub first_here : expressible (get_or ts i 0) ≡ false → first_inexpressible (drop i ts) ≡ 0
  unfolding first_inexpressible
  first_here e = rw drop_time (simp e)

  pub first_next : expressible (get_or ts i 0) ≡ true → first_inexpressible (drop i ts) ≡ suc (first_inexpressible (drop (i + 1) ts))
  unfolding first_inexpressible
  first_next e = rw drop_time (simp e)

  words_next : words_for (drop i ts) ≡ replicate (get_or ts i 0 / zero_ticks) 0 ++ (get_or ts i 0 % zero_ticks ∷ words_for (drop (i + 1) ts))
  unfolding words_for
  words_next = rw drop_time (append_assoc (replicate (get_or ts i 0 / zero_ticks) 0) (get_or ts i 0 % zero_ticks ∷ []) (words_for (drop (i + 1) ts)))

  pub size_next : length (words_for (drop i ts)) ≡ get_or ts i 0 / zero_ticks + 1 + length (words_for (drop (i + 1) ts))
  size_next = rw words_next (simp (length-append, length-replicate) (omega arith))

  pub bytes_next : bytes_of (words_for (drop i ts))
      ≡ replicate (2 * (get_or ts i 0 / zero_ticks)) 0 ++ (be16_bytes (get_or ts i 0 % zero_ticks) ++ bytes_of (words_for (drop (i + 1) ts)))
  unfolding bytes_of
  bytes_next = rw words_next (zero_bytes (get_or ts i 0 / zero_ticks) (get_or ts i 0 % zero_ticks ∷ words_for (drop (i + 1) ts)))

-- ---- past the last time

module _ (ts : List ℕ) (i : ℕ) (h : length ts ≤ i) where
  pub first_end : first_inexpressible (drop i ts) ≡ 0
  unfolding first_inexpressible
  first_end = rw (drop_of_length-le ts h) refl

  pub words_end : words_for (drop i ts) ≡ []
  unfolding words_for
  words_end = rw (drop_of_length-le ts h) refl

  pub bytes_end : bytes_of (words_for (drop i ts)) ≡ []
  unfolding bytes_of
  bytes_end = rw words_end refl
