-- The checksum moved along with the stores. A store behind the checksum moves the true sum by what it puts less what was there, and the
-- running sum by the same, modulo 2^32; so after all of them the sum has moved by the change of the true sum.
use Rattle.std.proofs.Common.{◌≡◌, ℕ, ◌+◌, ◌%◌, ◌<◌, ◌≤◌, List, length, take, drop, sym, ap, ◌∙◌, arith, take-append-drop}
use lib.Seq.{sets}
use Rattle.octets.specs.Sums.{sum_of}
use Rattle.octets.proofs.Numbers.{take_sets}
use Rattle.octets.proofs.Sums.{sum_append, sum_sets}
use Rattle.scp_fields.specs.Header.{true_sum}
use Rattle.scp_rewrite.specs.Rewriting.{moved}
use Rattle.scp_rewrite.specs.Steps.{Stored}

-- The sum s has moved from s₀ by the change of the true sum from b to p.
abbrev pub Moved : List ℕ → ℕ → List ℕ → ℕ → Type 0
Moved b s₀ p s = (s + true_sum b) % 4_294_967_296 ≡ (s₀ + true_sum p) % 4_294_967_296

sum_split : (n : ℕ) (b : List ℕ) → sum_of b ≡ sum_of (take n b) + sum_of (drop n b)
sum_split n b = ap sum_of (sym (take-append-drop n b)) ∙ sum_append (take n b) (drop n b)

-- a store at or behind n moves the sum from n on
sum_behind : (n : ℕ) (vs b : List ℕ) (i : ℕ) → n ≤ i → i + length vs ≤ length b
    → sum_of (drop n (sets b i vs)) + sum_of (take (length vs) (drop i b)) ≡ sum_of (drop n b) + sum_of vs
sum_behind n vs b i l h =
    let front : sum_of (take n (sets b i vs)) ≡ sum_of (take n b) = ap sum_of (take_sets vs b i n l) in
    omega (arith, sum_sets vs b i h, sum_split n b, sum_split n (sets b i vs))

-- ---- modulo 2^32

inner : (x y : ℕ) → (x + y % 4_294_967_296) % 4_294_967_296 ≡ (x + y) % 4_294_967_296
inner x y = omega arith

added : (x y z w : ℕ) → x % 4_294_967_296 ≡ y % 4_294_967_296 → z % 4_294_967_296 ≡ w % 4_294_967_296
    → (x + z) % 4_294_967_296 ≡ (y + w) % 4_294_967_296
added x y z w e f = omega arith

cancelled : (x y a : ℕ) → (x + a) % 4_294_967_296 ≡ (y + a) % 4_294_967_296 → x % 4_294_967_296 ≡ y % 4_294_967_296
cancelled x y a e = omega arith

-- t and u are the sums before and after, n is put and o was there
step : (s r s₀ c t u n o : ℕ) → u + o ≡ t + n → (s + c) % 4_294_967_296 ≡ (s₀ + t % 4_294_967_296) % 4_294_967_296
    → (r + o % 4_294_967_296) % 4_294_967_296 ≡ (s + n % 4_294_967_296) % 4_294_967_296
    → (r + c) % 4_294_967_296 ≡ (s₀ + u % 4_294_967_296) % 4_294_967_296
step s r s₀ c t u n o e f g =
    let both = added (s + c) (s₀ + t) (r + o) (s + n) (f ∙ inner s₀ t) (sym (inner r o) ∙ g ∙ inner s n) in
    let left : (r + c) + (s + o) ≡ (s + c) + (r + o) = omega arith in
    let right : (s₀ + t) + (s + n) ≡ (s₀ + u) + (s + o) = omega arith in
    cancelled (r + c) (s₀ + u) (s + o)
    (ap (λ (x : ℕ). x % 4_294_967_296) left ∙ both ∙ ap (λ (x : ℕ). x % 4_294_967_296) right) ∙ sym (inner s₀ u)

pub moved_next : (b p vs q : List ℕ) (i s₀ s r : ℕ) → 0x10 ≤ i → i + length vs ≤ length p → Moved b s₀ p s → Stored p i vs s q r
    → Moved b s₀ q r
unfolding true_sum
moved_next b p vs q i s₀ s r l h f st =
    step s r s₀ (true_sum b) (sum_of (drop 0x10 p)) (sum_of (drop 0x10 (sets p i vs))) (sum_of vs) (sum_of (take (length vs) (drop i p)))
    (sum_behind 0x10 vs p i l h) f st.sum
    ∙ ap (λ (x : List ℕ). (s₀ + true_sum x) % 4_294_967_296) (sym st.bytes)

pub moved_end : (b p : List ℕ) (s₀ s : ℕ) → s < 4_294_967_296 → Moved b s₀ p s → s ≡ moved s₀ (true_sum p) (true_sum b)
unfolding true_sum
moved_end b p s₀ s h f = omega arith
