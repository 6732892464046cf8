-- A number of 32 bits is an f64, so that a speed is the fraction itself rounded once; and rounding keeps the order of fractions, so that a
-- longer duration is no faster.
use Prim.Native.Nat.{ℕ, ◌*◌, ◌<◌, ◌≤◌}
use mathlib.Core.Path.{◌≡◌, refl, sym, ap, subst, ◌∙◌}
use mathlib.Core.List.{List}
use mathlib.Core.Bool.{Bool, true, false, cond}
use mathlib.Core.Logic.{◌↔◌}
use native.Mathlib.Nat.{mul-one, mul_comm, mul_assoc, mul_left_comm, mul-pos}
use native.Mathlib.Omega.{arith}
use native.Mathlib.Decide.{ℕ_discrete}
use lib.Dec.{T, ltb→lt, le→leb, eqb}
use lib.IntN.{pos}
use lib.Ieee.{Float, nan, inf, fin, Format, binary64, div, of_int, round, in_float, le}
use lib.Ieee.Exact.{HasValue}
use lib.Ieee.Back.{round_whole, unsigned_back}
use lib.Ieee.Scale.{round_same}
use lib.Ieee.Order.{round_mono}
use lib.Ieee.Positive.{num, den, positive, den_pos, value→cross, positive_of_value}
use borrow.Author.Tests.{ne_eqb, eq-eqb, eqb-true}
use Rattle.std.specs.Prelude.{Some, None}
use Rattle.octets.specs.Numbers.{Octets}
use Rattle.octets.proofs.Numbers.{le_bound}
use Rattle.scp_fields.specs.Header.{revolutions}
use Rattle.scp_tracks.specs.Tracks.{duration_at, revolution_at}
use Rattle.scp_speed.specs.Speeds.{rpm_of, speed_of, longest, shortest, speeds_of}
use Rattle.scp_speed.specs.declared.TrackSpeeds.{TrackSpeeds}
use Rattle.scp_theorems.specs.Theorems.{CastsExact, RoundedOnce, SlowestFastest, NoSpeed, ThreeHundred}
use Rattle.scp_theorems.proofs.Durations.{longest_is_greatest, shortest_is_least}

-- ---- the casts

value_of : (n : ℕ) → n < 4_294_967_296 → HasValue (of_int binary64 (pos n)) false n 1
unfolding of_int
value_of n h = let l : n ≤ 9_007_199_254_740_992 = omega arith in round_whole binary64 false n l

in_float_lem : (n : ℕ) → n < 4_294_967_296 → T (in_float binary64 (pos n))
unfolding in_float
in_float_lem n h = let l : n ≤ 9_007_199_254_740_992 = omega arith in le→leb n 9_007_199_254_740_992 l

pub casts_exact : CastsExact
casts_exact n h = record { value = value_of n h; back = (unsigned_back binary64 32 n (in_float_lem n h) h).1 }

-- ---- the division

quotient : (f : Format) (x y : Float) → T (positive x) → T (positive y) → div f x y ≡ round f false (num x * den y) (num y * den x)
unfolding div
quotient f nan y p q = absurd p
quotient f (inf s) y p q = absurd p
quotient f (fin true m e) y p q = absurd p
quotient f (fin false m e) nan p q = absurd q
quotient f (fin false m e) (inf t) p q = absurd q
quotient f (fin false m e) (fin true n d) p q = absurd q
quotient f (fin false m e) (fin false n d) p q =
    let positive-n = ltb→lt 0 n q in
    simp (ne_eqb n 0 (λ z. omega arith))

-- by the whole numbers that both stand for
quotient_of : (f : Format) (x y : Float) (a c : ℕ) → 0 < a → 0 < c → HasValue x false a 1 → HasValue y false c 1 → div f x y ≡ round f false a c
quotient_of f x y a c p q v w =
    let ex : num x ≡ a * den x = sym (mul-one (num x)) ∙ value→cross x a 1 v in
    let ey : num y ≡ c * den y = sym (mul-one (num y)) ∙ value→cross y c 1 w in
    let same : a * den x * den y * c ≡ a * (c * den y * den x) = simp (mul_assoc, mul_comm, mul_left_comm) in
    let pos-y : 0 < num y = subst (λ (z : ℕ). 0 < z) (sym ey) (mul-pos q (den_pos y)) in
    quotient f x y (positive_of_value x a 1 v p) (positive_of_value y c 1 w q)
    ∙ round_same f false (num x * den y) (num y * den x) a c (mul-pos pos-y (den_pos x)) q
    (ap (λ (z : ℕ). z * den y * c) ex ∙ same ∙ ap (λ (z : ℕ). a * (z * den x)) (sym ey))

pub rounded_once : RoundedOnce
rounded_once d p h =
    quotient_of binary64 (of_int binary64 (pos 2_400_000_000)) (of_int binary64 (pos d)) 2_400_000_000 d (omega arith) p
    (value_of 2_400_000_000 (omega arith)) (value_of d h)

-- ---- slowest and fastest

holds : (x : Bool) → T x → x ≡ true
holds true t = refl
holds false t = absurd t

-- a longer duration is no faster
no_faster : (c d : ℕ) → 0 < d → d ≤ c → c < 4_294_967_296 → le (rpm_of c) (rpm_of d) ≡ true
no_faster c d p l h =
    let order : 2_400_000_000 * d ≤ 2_400_000_000 * c = omega arith in
    ap (λ (x : Float). le x (rpm_of d)) (rounded_once c (omega arith) h)
    ∙ ap (le (round binary64 false 2_400_000_000 c)) (rounded_once d p (omega arith))
    ∙ holds _ (round_mono binary64 2_400_000_000 c 2_400_000_000 d (omega arith) p order)

module _ (b : List ℕ) (e : ℕ) (octets : Octets b) where
  fits : (k : ℕ) → duration_at b e k < 4_294_967_296
  fits k = le_bound 4 b (revolution_at e k) octets

  longest_fits : 0 < revolutions b → longest b e < 4_294_967_296
  longest_fits p =
      let r = (longest_is_greatest b e).reached p in
      subst (λ (n : ℕ). n < 4_294_967_296) r.2 (fits r.0)

pub slowest_fastest : SlowestFastest
slowest_fastest b e k octets h p =
    let long = (longest_is_greatest b e).bound k h in
    let least = shortest_is_least b e in
    let short = least.bound k h p in
    let some : shortest b e ≡ 0 → ⊥ = λ z. p (least.none.0 z k h) in
    record {
      slowest = no_faster (longest b e) (duration_at b e k) (omega arith) long (longest_fits b e octets (omega arith));
      fastest = no_faster (duration_at b e k) (shortest b e) (omega arith) short (fits b e octets k);
    }

-- the longest is 0 exactly if all are
longest_zero : (b : List ℕ) (e : ℕ) → (longest b e ≡ 0) ↔ ((k : ℕ) → k < revolutions b → duration_at b e k ≡ 0)
longest_zero b e =
    let long = longest_is_greatest b e in (
      λ z k h. let l = long.bound k h in omega arith,
      λ a.
          elim (ℕ_discrete (revolutions b) 0) [
            | yes z ↦ long.none z
            | no p ↦ let r = long.reached (omega arith) in sym r.2 ∙ a r.0 r.1
          ],
    )

-- speeds, or none where the test holds
none_by : (x : Bool) (s : TrackSpeeds) → cond x None (Some s) ≡ None → x ≡ true
none_by true s e = refl
none_by false s e = let z : ◌≡◌ {A = ℕ} 0 1 = cc in absurd (omega arith)

pub no_speed : NoSpeed
unfolding speeds_of
no_speed b e = (
  λ n. (longest_zero b e).0 (eqb-true (longest b e) 0 (none_by (eqb (longest b e) 0) _ n)),
  λ a. simp (eq-eqb (longest b e) 0 ((longest_zero b e).1 a)),
)

-- ---- the worked example

pub three_hundred : ThreeHundred
unfolding speed_of div of_int
three_hundred = refl
