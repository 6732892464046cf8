-- No speed is a NaN: rounding never makes one, and a division makes one only of two zeros or two infinities.
use Prim.Native.Nat.{ℕ, zero, suc, ◌+◌, ◌*◌, ◌^◌}
use mathlib.Core.Path.{◌≡◌, refl, sym, ap, subst, ◌∙◌}
use mathlib.Core.Bool.{Bool, true, false, not, cond}
use lib.Dec.{T, eqb, ltb}
use lib.IntN.{ℤ, pos}
use lib.Ieee.{Float, nan, inf, fin, Format, binary64, prec, emax, low, up, down, unlike, odd, units, round, div, of_int, is_nan}
use mathlib.Core.List.{List}
use Rattle.std.specs.Prelude.{Some}
use Rattle.std.specs.Prelude as std
use Rattle.refusals.specs.Refusals.{passes}
use Rattle.scp_fields.specs.declared.Edition.{Edition}
use Rattle.scp_fields.specs.Header.{track_entry}
use Rattle.scp_tracks.specs.Tracks.{duration_at}
use Rattle.scp_speed.specs.Speeds.{rpm_of, longest, shortest, speeds_of}
use Rattle.scp_lookup.specs.Questions.{track_question, revolution_question}
use Rattle.scp.specs.Answers.{Answer, none, speed_answer, of_speed_range, track_speed_answer}
use Rattle.scp_rows.specs.Rows.{Real}

odd_no_nan : (d : ℕ) (s : Bool) (q k l : ℕ) → is_nan (odd d s q k l) ≡ false
unfolding odd is_nan
odd_no_nan d s zero k l = refl
odd_no_nan d s (suc q) k l = refl

either_no_nan : (t s : Bool) (x : Float) → is_nan x ≡ false → is_nan (cond t x (inf s)) ≡ false
unfolding is_nan
either_no_nan true s x h = h
either_no_nan false s x h = refl

units_no_nan : (f : Format) (s : Bool) (q k : ℕ) → is_nan (units f s q k) ≡ false
unfolding units
units_no_nan f s q k =
    either_no_nan (ltb (q * 2 ^ k) (2 ^ (low f + suc (emax f)))) s (odd (suc (prec f)) s q k (low f)) (odd_no_nan (suc (prec f)) s q k (low f))

round_no_nan : (f : Format) (s : Bool) (num den : ℕ) → is_nan (round f s num den) ≡ false
unfolding round
round_no_nan f s num den = units_no_nan f s _ _

-- the choice that a division makes: x, unless it divides by 0; then an infinity, unless it divides 0
quotient_no_nan : (t z s : Bool) (x : Float) → z ≡ false → is_nan x ≡ false → is_nan (cond t (cond z nan (inf s)) x) ≡ false
unfolding is_nan
quotient_no_nan true true s x e h = e
quotient_no_nan true false s x e h = refl
quotient_no_nan false z s x e h = h

-- a quotient of a number that is not 0 by what is no NaN
div_no_nan : (s : Bool) (m : ℕ) (e : ℤ) (y : Float) → eqb m 0 ≡ false → is_nan y ≡ false → is_nan (div binary64 (fin s m e) y) ≡ false
unfolding div is_nan
div_no_nan s m e nan z h = h
div_no_nan s m e (inf t) z h = refl
div_no_nan s m e (fin t n d) z h =
    quotient_no_nan (eqb n 0) (eqb m 0) (unlike s t) (round binary64 (unlike s t) (m * up e * down d) (n * up d * down e)) z
    (round_no_nan binary64 (unlike s t) (m * up e * down d) (n * up d * down e))

ticks : of_int binary64 (pos 2_400_000_000) ≡ fin false 1_171_875 (pos 11)
unfolding of_int
ticks = refl

of_int_no_nan : (n : ℕ) → is_nan (of_int binary64 (pos n)) ≡ false
unfolding of_int
of_int_no_nan n = round_no_nan binary64 false n 1

-- the speed of a duration, of 0 too
pub rpm_no_nan : (d : ℕ) → is_nan (rpm_of d) ≡ false
rpm_no_nan d = ap (λ (x : Float). is_nan (div binary64 x (of_int binary64 (pos d)))) ticks ∙ div_no_nan false 1_171_875 (pos 11) _ refl (of_int_no_nan d)

-- ---- the speeds that the questions answer

rpm_real : (d : ℕ) → T (not (is_nan (rpm_of d)))
rpm_real d = subst (λ (x : Bool). T (not x)) (sym (rpm_no_nan d)) tt

pick_real : (x : Bool) (a c : Answer) → Real a → Real c → Real (cond x a c)
pick_real true a c h k = h
pick_real false a c h k = k

pub speed_real : (v : Edition) (b : List ℕ) (t k : ℕ) → Real (speed_answer v b t k)
unfolding speed_answer
speed_real v b t k =
    pick_real (passes (revolution_question v b t k)) _ _ (pick_real (eqb (duration_at b (track_entry b t) k) 0) none _ tt (rpm_real _, tt)) tt

range_real : (x : Bool) (most least : ℕ)
    → Real (of_speed_range (cond x std.None (Some (record { slowest = rpm_of most; fastest = rpm_of least }))))
range_real true most least = tt
range_real false most least = (rpm_real most, (rpm_real least, tt))

pub track_speed_real : (v : Edition) (b : List ℕ) (t : ℕ) → Real (track_speed_answer v b t)
unfolding track_speed_answer speeds_of
track_speed_real v b t =
    pick_real (passes (track_question v b t)) _ _
    (range_real (eqb (longest b (track_entry b t)) 0) (longest b (track_entry b t)) (shortest b (track_entry b t))) tt
