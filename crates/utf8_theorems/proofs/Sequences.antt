-- A sequence of table 3-7 is the encoding of a scalar value by table 3-6, and each scalar value's encoding is such a sequence.
use Prim.Native.Nat.{ℕ, ◌+◌, ◌-◌, ◌*◌, ◌/◌, ◌%◌, ◌<◌, ◌≤◌}
use mathlib.Core.Path.{◌≡◌, refl}
use mathlib.Core.Logic.{inl, inr, ⊎_elim}
use mathlib.Core.Bool.{Bool, true, false, ◌&&◌, cond, and-eq-true_iff, false≢true}
use mathlib.Core.List.{List, [], ◌∷◌, ◌++◌}
use native.Mathlib.Decide.{ℕ_discrete, dec_lt}
use native.Mathlib.Omega.{arith}
use lib.Dec.{leb, eqb}
use lib.ListN.{length}
use borrow.Author.Tests.{leb-true, lt-ltb, le-ltb, ne_eqb}
use Rattle.utf8.specs.Table.{◌to◌, holds, starts, sequence_size}
use Rattle.utf8.specs.Reading.{lowest, highest}
use Rattle.utf8_theorems.specs.Encoding.{Scalar, encode}
use Rattle.utf8.proofs.Rows.{trail, second, inside, size_ascii, size_none, size_two, size_three, size_four, two_bytes, three_bytes, four_bytes}

-- The second byte b can follow the first byte a.
pub record Second (a b : ℕ) : Type 0 where
  pub low : 0x80 ≤ b
  pub high : b ≤ 0xBF
  pub after_e0 : a ≡ 0xE0 → 0xA0 ≤ b
  pub after_ed : a ≡ 0xED → b ≤ 0x9F
  pub after_f0 : a ≡ 0xF0 → 0x90 ≤ b
  pub after_f4 : a ≡ 0xF4 → b ≤ 0x8F

pub record Trail (b : ℕ) : Type 0 where
  pub low : 0x80 ≤ b
  pub high : b ≤ 0xBF

-- A sequence of the table.
pub data Sequence : List ℕ → Type 0 where
  one : {a : ℕ} → a < 0x80 → Sequence (a ∷ [])
  two : {a b : ℕ} → 0xC2 ≤ a → a < 0xE0 → Trail b → Sequence (a ∷ b ∷ [])
  three : {a b c : ℕ} → 0xE0 ≤ a → a < 0xF0 → Second a b → Trail c → Sequence (a ∷ b ∷ c ∷ [])
  four : {a b c d : ℕ} → 0xF0 ≤ a → a ≤ 0xF4 → Second a b → Trail c → Trail d → Sequence (a ∷ b ∷ c ∷ d ∷ [])

-- ---- as tests

holds_within : (lo hi b : ℕ) → holds (lo to hi) b ≡ true → (lo ≤ b) × (b ≤ hi)
holds_within lo hi b e =
    let both = (and-eq-true_iff (leb lo b) (leb b hi)).0 e in
    (leb-true lo b both.0, leb-true b hi both.1)

trail_of : (b : ℕ) → holds trail b ≡ true → Trail b
trail_of b e = let w = holds_within 0x80 0xBF b e in record { low = w.0; high = w.1 }

trail_holds : {b : ℕ} → Trail b → holds trail b ≡ true
trail_holds t = inside t.low t.high

lowest_least : (a : ℕ) → 0x80 ≤ lowest a
lowest_least a = go (eqb a 0xE0) (eqb a 0xF0)
  where
    go : (x y : Bool) → 0x80 ≤ cond x 0xA0 (cond y 0x90 0x80)
    go true y = omega arith
    go false true = omega arith
    go false false = omega arith

highest_greatest : (a : ℕ) → highest a ≤ 0xBF
highest_greatest a = go (eqb a 0xED) (eqb a 0xF4)
  where
    go : (x y : Bool) → cond x 0x9F (cond y 0x8F 0xBF) ≤ 0xBF
    go true y = omega arith
    go false true = omega arith
    go false false = omega arith

second_of : (a b : ℕ) → holds (second a) b ≡ true → Second a b
second_of a b e =
    let w = holds_within (lowest a) (highest a) b e in
    let l = lowest_least a in
    let h = highest_greatest a in
    record {
      low = omega arith;
      high = omega arith;
      after_e0 = λ p. rw p at w.0;
      after_ed = λ p. rw p at w.1;
      after_f0 = λ p. rw p at w.0;
      after_f4 = λ p. rw p at w.1;
    }

second_holds : (a b : ℕ) → Second a b → holds (second a) b ≡ true
second_holds a b s = inside low high
  where
    low : lowest a ≤ b
    low =
        elim (ℕ_discrete a 0xE0) [
          | yes e ↦ rw e (s.after_e0 e)
          | no e ↦ elim (ℕ_discrete a 0xF0) [
            | yes f ↦ rw f (s.after_f0 f)
            | no f ↦ rw (ne_eqb a 0xE0 e, ne_eqb a 0xF0 f) s.low
          ]
        ]

    high : b ≤ highest a
    high =
        elim (ℕ_discrete a 0xED) [
          | yes e ↦ rw e (s.after_ed e)
          | no e ↦ elim (ℕ_discrete a 0xF4) [
            | yes f ↦ rw f (s.after_f4 f)
            | no f ↦ rw (ne_eqb a 0xED e, ne_eqb a 0xF4 f) s.high
          ]
        ]

-- ---- by the table

-- A sequence is found, whatever follows it.
pub sequence_size_lem : {q : List ℕ} (s : List ℕ) → Sequence q → sequence_size (q ++ s) ≡ length q
sequence_size_lem s (one h) = size_ascii _ _ h
sequence_size_lem s (two {a} {b} h k t) = two_bytes a b 0 0 s h k (trail_holds t)
sequence_size_lem s (three {a} {b} {c} h k m t) = three_bytes a b c 0 s {x = true} h k (simp (second_holds a b m, trail_holds t))
sequence_size_lem s (four {a} {b} {c} {d} h k m t u) =
    four_bytes a b c d s {x = true} h k (simp (second_holds a b m, trail_holds t, trail_holds u))

-- What is found is a sequence.
pub data Split : List ℕ → Type 0 where
  split : {q : List ℕ} (t : List ℕ) → Sequence q → Split (q ++ t)

chosen : (x : Bool) (n : ℕ) → 0 < cond x n 0 → x ≡ true
chosen true n h = refl
chosen false n h = absurd (omega arith)

split_two : (a : ℕ) (s : List ℕ) → 0xC2 ≤ a → a < 0xE0 → starts (trail ∷ []) s ≡ true → Split (a ∷ s)
unfolding starts
split_two a [] h k e = absurd (false≢true e)
split_two a (b ∷ s) h k e = split s (two h k (trail_of b ((and-eq-true_iff (holds trail b) true).0 e).0))

split_three : (a : ℕ) (s : List ℕ) → 0xE0 ≤ a → a < 0xF0 → starts (second a ∷ trail ∷ []) s ≡ true → Split (a ∷ s)
unfolding starts
split_three a [] h k e = absurd (false≢true e)
split_three a (b ∷ []) h k e = absurd (false≢true ((and-eq-true_iff (holds (second a) b) false).0 e).1)
split_three a (b ∷ c ∷ s) h k e =
    let x = (and-eq-true_iff (holds (second a) b) (holds trail c && true)).0 e in
    let y = (and-eq-true_iff (holds trail c) true).0 x.1 in
    split s (three h k (second_of a b x.0) (trail_of c y.0))

split_four : (a : ℕ) (s : List ℕ) → 0xF0 ≤ a → a ≤ 0xF4 → starts (second a ∷ trail ∷ trail ∷ []) s ≡ true → Split (a ∷ s)
unfolding starts
split_four a [] h k e = absurd (false≢true e)
split_four a (b ∷ []) h k e = absurd (false≢true ((and-eq-true_iff (holds (second a) b) false).0 e).1)
split_four a (b ∷ c ∷ []) h k e =
    let x = (and-eq-true_iff (holds (second a) b) (holds trail c && false)).0 e in
    absurd (false≢true ((and-eq-true_iff (holds trail c) false).0 x.1).1)
split_four a (b ∷ c ∷ d ∷ s) h k e =
    let x = (and-eq-true_iff (holds (second a) b) (holds trail c && (holds trail d && true))).0 e in
    let y = (and-eq-true_iff (holds trail c) (holds trail d && true)).0 x.1 in
    let z = (and-eq-true_iff (holds trail d) true).0 y.1 in
    split s (four h k (second_of a b x.0) (trail_of c y.0) (trail_of d z.0))

pub splits : (a : ℕ) (s : List ℕ) → 0 < sequence_size (a ∷ s) → Split (a ∷ s)
splits a s h =
    elim (dec_lt a 0x80) [
      | yes k ↦ split s (one k)
      | no k ↦ elim (dec_lt a 0xC2) [
        | yes l ↦ absurd (let z = size_none a s (inl l) (omega arith) in omega arith)
        | no l ↦ elim (dec_lt a 0xE0) [
          | yes m ↦
              let z = size_two a s (omega arith) m in
              split_two a s (omega arith) m (chosen (starts (trail ∷ []) s) 2 (rw z at h))
          | no m ↦ elim (dec_lt a 0xF0) [
            | yes n ↦
                let z = size_three a s (omega arith) n in
                split_three a s (omega arith) n (chosen (starts (second a ∷ trail ∷ []) s) 3 (rw z at h))
            | no n ↦ elim (dec_lt 0xF4 a) [
              | yes o ↦ absurd (let z = size_none a s (inr o) (omega arith) in omega arith)
              | no o ↦
                  let z = size_four a s (omega arith) (omega arith) in
                  split_four a s (omega arith) (omega arith) (chosen (starts (second a ∷ trail ∷ trail ∷ []) s) 4 (rw z at h))
            ]
          ]
        ]
      ]
    ]

-- ---- by the encoding

module _ (v : ℕ) (g : Scalar v) where
  encoded_one : v < 0x80 → Sequence (encode v)
  encoded_one h = rw (lt-ltb v 0x80 h) (one h)

  encoded_two : 0x80 ≤ v → v < 0x800 → Sequence (encode v)
  encoded_two h k =
      rw (le-ltb v 0x80 h, lt-ltb v 0x800 k)
      (two {a = 0b1100_0000 + v / 64} {b = 0b1000_0000 + v % 64} (omega arith) (omega arith) (record { low = omega arith; high = omega arith }))

  encoded_three : 0x800 ≤ v → v < 0x10000 → Sequence (encode v)
  encoded_three h k =
      let e : 0x80 ≤ v = omega arith in
      rw (le-ltb v 0x80 e, le-ltb v 0x800 h, lt-ltb v 0x10000 k)
      (three {a = 0b1110_0000 + v / 4096} {b = 0b1000_0000 + v / 64 % 64} {c = 0b1000_0000 + v % 64} (omega arith) (omega arith)
      (record {
        low = omega arith;
        high = omega arith;
        after_e0 = λ p. omega arith;
        after_ed = λ p. ⊎_elim (λ l. omega arith) (λ l. omega arith) g;
        after_f0 = λ p. omega arith;
        after_f4 = λ p. omega arith;
      })
      (record { low = omega arith; high = omega arith }))

  encoded_four : 0x10000 ≤ v → Sequence (encode v)
  encoded_four h =
      let e : 0x80 ≤ v = omega arith in
      let f : 0x800 ≤ v = omega arith in
      let top : v ≤ 0x10FFFF = ⊎_elim (λ l. omega arith) (λ l. l.1) g in
      rw (le-ltb v 0x80 e, le-ltb v 0x800 f, le-ltb v 0x10000 h)
      (four {a = 0b1111_0000 + v / 262_144} {b = 0b1000_0000 + v / 4096 % 64} {c = 0b1000_0000 + v / 64 % 64} {d = 0b1000_0000 + v % 64} (omega arith) (omega arith)
      (record {
        low = omega arith;
        high = omega arith;
        after_e0 = λ p. omega arith;
        after_ed = λ p. omega arith;
        after_f0 = λ p. omega arith;
        after_f4 = λ p. omega arith;
      })
      (record { low = omega arith; high = omega arith })
      (record { low = omega arith; high = omega arith }))

  -- The encoding of a scalar value is a sequence.
  pub encoded : Sequence (encode v)
  encoded =
      elim (dec_lt v 0x80) [
        | yes h ↦ encoded_one h
        | no h ↦ elim (dec_lt v 0x800) [
          | yes k ↦ encoded_two (omega arith) k
          | no k ↦ elim (dec_lt v 0x10000) [
            | yes l ↦ encoded_three (omega arith) l
            | no l ↦ encoded_four (omega arith)
          ]
        ]
      ]

-- The scalar value of a sequence.
pub record Decoded (q : List ℕ) (v : ℕ) : Type 0 where
  pub scalar : Scalar v
  pub bytes : encode v ≡ q

decoded_two : (a b v : ℕ) → 0xC2 ≤ a → a < 0xE0 → Trail b → v ≡ 64 * (a - 0xC0) + (b - 0x80) → Decoded (a ∷ b ∷ []) v
decoded_two a b v h k t e =
    let low : 0x80 ≤ v = omega arith in
    let high : v < 0x800 = omega arith in
    let p : 0xC0 + v / 64 ≡ a = omega arith in
    let q : 0x80 + v % 64 ≡ b = omega arith in
    record { scalar = inl (omega arith); bytes = rw (le-ltb v 0x80 low, lt-ltb v 0x800 high) (cc) }

module _ (a b c v : ℕ) (h : 0xE0 ≤ a) (k : a < 0xF0) (m : Second a b) (t : Trail c)
    (e : v ≡ 4096 * (a - 0xE0) + 64 * (b - 0x80) + (c - 0x80)) where
  low_three : 0x800 ≤ v
  low_three =
      elim (ℕ_discrete a 0xE0) [
        | yes f ↦ let l = m.after_e0 f in omega arith
        | no f ↦ omega arith
      ]

  scalar_three : Scalar v
  scalar_three =
      elim (dec_lt a 0xED) [
        | yes f ↦ inl (omega arith)
        | no f ↦ elim (ℕ_discrete a 0xED) [
          | yes g ↦ let l = m.after_ed g in inl (omega arith)
          | no g ↦ inr (omega arith, omega arith)
        ]
      ]

  decoded_three : Decoded (a ∷ b ∷ c ∷ []) v
  decoded_three =
      let l = low_three in
      let l' : 0x80 ≤ v = omega arith in
      let high : v < 0x10000 = omega arith in
      let p : 0xE0 + v / 4096 ≡ a = omega arith in
      let q : 0x80 + v / 64 % 64 ≡ b = omega arith in
      let r : 0x80 + v % 64 ≡ c = omega arith in
      record { scalar = scalar_three; bytes = rw (le-ltb v 0x80 l', le-ltb v 0x800 l, lt-ltb v 0x10000 high) (cc) }

module _ (a b c d v : ℕ) (h : 0xF0 ≤ a) (k : a ≤ 0xF4) (m : Second a b) (t : Trail c) (u : Trail d)
    (e : v ≡ 262_144 * (a - 0xF0) + 4096 * (b - 0x80) + 64 * (c - 0x80) + (d - 0x80)) where
  low_four : 0x10000 ≤ v
  low_four =
      elim (ℕ_discrete a 0xF0) [
        | yes f ↦ let l = m.after_f0 f in omega arith
        | no f ↦ omega arith
      ]

  high_four : v ≤ 0x10FFFF
  high_four =
      elim (ℕ_discrete a 0xF4) [
        | yes f ↦ let l = m.after_f4 f in omega arith
        | no f ↦ omega arith
      ]

  decoded_four : Decoded (a ∷ b ∷ c ∷ d ∷ []) v
  decoded_four =
      let l = low_four in
      let l' : 0x80 ≤ v = omega arith in
      let l'' : 0x800 ≤ v = omega arith in
      let p : 0xF0 + v / 262_144 ≡ a = omega arith in
      let q : 0x80 + v / 4096 % 64 ≡ b = omega arith in
      let r : 0x80 + v / 64 % 64 ≡ c = omega arith in
      let s : 0x80 + v % 64 ≡ d = omega arith in
      record { scalar = inr (omega arith, high_four); bytes = rw (le-ltb v 0x80 l', le-ltb v 0x800 l'', le-ltb v 0x10000 l) (cc) }

-- Each sequence is the encoding of a scalar value.
pub decoded : {q : List ℕ} → Sequence q → (v : ℕ) × Decoded q v
decoded (one {a} h) = (a, record { scalar = inl (omega arith); bytes = rw (lt-ltb a 0x80 h) })
decoded (two {a} {b} h k t) = (_, decoded_two a b _ h k t refl)
decoded (three {a} {b} {c} h k m t) = (_, decoded_three a b c _ h k m t refl)
decoded (four {a} {b} {c} {d} h k m t u) = (_, decoded_four a b c d _ h k m t u refl)
