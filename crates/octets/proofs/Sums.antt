-- Laws of byte sums: they are summed block by block, and a store moves a sum by what it puts less what was there.
use Rattle.std.proofs.Common.{◌≡◌, ℕ, zero, suc, ◌+◌, ◌*◌, ◌<◌, ◌≤◌, List, [], ◌∷◌, ◌++◌, length, take, drop, set, refl, ap, le_of_suc-le-suc, not-suc-le-zero, zero-mul, arith, length-set, drop-cons, drop-set-lt}
use Rattle.std.specs.List.{sum}
use Rattle.std.specs.Simd.{first_chunks}
use Rattle.std.proofs.lemmas.List.Sums.{sum_by-cons, sum_by-append}
use lib.ListN.{get_or}
use lib.Seq.{sets, take-add, drop-drop}
use Rattle.octets.specs.Numbers.{byte_at, Octets}
use Rattle.octets.specs.Sums.{sum_of}

pub sum_append : (a b : List ℕ) → sum_of (a ++ b) ≡ sum_of a + sum_of b
unfolding sum_of
sum_append [] b = omega arith
sum_append (x ∷ a) b = omega (arith, sum_append a b)

-- The sum is std's.
pub sum_is : (b : List ℕ) → sum b ≡ sum_of b
unfolding sum_of
sum_is [] = refl
sum_is (x ∷ b) = omega (arith, sum_by-cons (λ (n : ℕ). n) x b, sum_is b)

-- Block i of n bytes.
pub block_at : (n k : ℕ) (b d : List ℕ) (i : ℕ) → i < k → get_or (first_chunks n k b) i d ≡ take n (drop (i * n) b)
block_at n zero b d i h = absurd (not-suc-le-zero h)
block_at n (suc k) b d zero h = rw zero-mul
block_at n (suc k) b d (suc i) h =
    let e : n + i * n ≡ suc i * n = omega arith in
    rw (block_at n k (drop n b) d i (le_of_suc-le-suc h), drop-drop (i * n) n b, e)

-- The first i blocks of n bytes, and one more.
pub sum_blocks : (n k : ℕ) (b d : List ℕ) (i : ℕ) → i < k
    → sum (take ((i + 1) * n) b) ≡ sum (take (i * n) b) + sum (get_or (first_chunks n k b) i d)
sum_blocks n k b d i h =
    let e : (i + 1) * n ≡ i * n + n = omega arith in
    rw (e, take-add (i * n) n b, block_at n k b d i h)
    (sum_by-append (λ (x : ℕ). x) (take (i * n) b) (take n (drop (i * n) b)))

-- Bytes sum to at most 255 each.
pub sum_bound : (b : List ℕ) → Octets b → sum_of b ≤ 255 * length b
unfolding sum_of
sum_bound [] h = omega arith
sum_bound (x ∷ b) h = omega (arith, h 0, sum_bound b (λ i. h (suc i)))

-- ---- stores

set_sum : (b : List ℕ) (i v : ℕ) → i < length b → sum_of (set b i v) + byte_at b i ≡ sum_of b + v
unfolding sum_of
set_sum [] i v h = absurd (not-suc-le-zero h)
set_sum (x ∷ b) zero v h = omega arith
set_sum (x ∷ b) (suc i) v h = omega (arith, set_sum b i v (le_of_suc-le-suc h))

-- A store moves the sum by what it puts less what was there.
pub sum_sets : (vs b : List ℕ) (i : ℕ) → i + length vs ≤ length b → sum_of (sets b i vs) + sum_of (take (length vs) (drop i b)) ≡ sum_of b + sum_of vs
unfolding sum_of
sum_sets [] b i h = refl
sum_sets (v ∷ vs) b i h =
    let k : i < length b = omega arith in
    let r = sum_sets vs (set b i v) (suc i) (rw (length-set b i v) (omega arith)) in
    let d : drop (suc i) (set b i v) ≡ drop (suc i) b = drop-set-lt (suc i) b i v (omega arith) in
    let t : sum_of (take (length vs) (drop (suc i) (set b i v))) ≡ sum_of (take (length vs) (drop (suc i) b)) =
    ap (λ (x : List ℕ). sum_of (take (length vs) x)) d in
    let c : sum_of (take (suc (length vs)) (drop i b)) ≡ byte_at b i + sum_of (take (length vs) (drop (suc i) b)) =
    ap (λ (x : List ℕ). sum_of (take (suc (length vs)) x)) (drop-cons b i 0 k) in
    omega (arith, r, t, c, set_sum b i v k)
