-- A number of m + n bytes in two parts, for every width: read, as bytes, and stored.
use Rattle.std.proofs.Common.{◌≡◌, ℕ, zero, suc, ◌+◌, ◌*◌, ◌/◌, ◌%◌, ◌^◌, List, [], ◌∷◌, ◌++◌, length, set, ap, add-zero, mul_assoc, suc-add, zero-add, div-one, arith}
use native.Mathlib.Nat.{pow-succ', div-div-eq-div-mul}
use lib.Seq.{sets}
use Rattle.octets.specs.Numbers.{le_at, le_bytes}
use Rattle.octets.proofs.Numbers.{le_length}

-- A number of m + n bytes: its lower m, and its upper n.
pub le_split : (m n : ℕ) (b : List ℕ) (i : ℕ) → le_at (m + n) b i ≡ le_at m b i + 256 ^ m * le_at n b (i + m)
unfolding le_at
le_split zero n b i = rw (zero-add n, add-zero i) (omega arith)
le_split (suc m) n b i =
    let e : i + suc m ≡ suc i + m = omega arith in
    rw (suc-add m n, e, pow-succ' 256 m)
    (omega (arith, le_split m n b (suc i), mul_assoc 256 (256 ^ m) (le_at n b (suc i + m))))

-- The bytes of a number of m + n bytes: those of its lower m, and those of its upper n.
pub le_bytes_split : (m n v : ℕ) → le_bytes (m + n) v ≡ le_bytes m v ++ le_bytes n (v / 256 ^ m)
unfolding le_bytes
le_bytes_split zero n v = rw (zero-add n, div-one v)
le_bytes_split (suc m) n v =
    rw (suc-add m n, pow-succ' 256 m, ← div-div-eq-div-mul v 256 (256 ^ m)) (ap (◌∷◌ (v % 256)) (le_bytes_split m n (v / 256)))

-- Two stores, the second directly behind the first, are one.
pub sets_append : (us vs b : List ℕ) (i : ℕ) → sets (sets b i us) (i + length us) vs ≡ sets b i (us ++ vs)
sets_append [] vs b i = rw (add-zero i)
sets_append (u ∷ us) vs b i =
    let e : i + suc (length us) ≡ suc i + length us = omega arith in
    rw e (sets_append us vs (set b i u) (suc i))

-- A number of m + n bytes is stored by storing its lower m bytes and then its upper n.
pub sets_split : (m n v : ℕ) (b : List ℕ) (i : ℕ) → sets (sets b i (le_bytes m v)) (i + m) (le_bytes n (v / 256 ^ m)) ≡ sets b i (le_bytes (m + n) v)
sets_split m n v b i =
    let e = sets_append (le_bytes m v) (le_bytes n (v / 256 ^ m)) b i in
    rw (le_bytes_split m n v) (rw (le_length m v) at e)
