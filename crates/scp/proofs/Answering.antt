-- An answer, unless it is refused; what refuses validating; answers whose values are equal; and what is read of a revolution's flux.
use Prim.Native.Nat.{ℕ}
use mathlib.Core.Path.{◌≡◌, refl, sym, ap, ◌∙◌}
use mathlib.Core.List.{List, [], ◌∷◌}
use mathlib.Core.Bool.{Bool, true, false, cond}
use native.Mathlib.Omega.{arith}
use lib.Dec.{eqb}
use lib.IntN.{ℤ}
use lib.Ieee.{Float}
use borrow.Author.Tests.{eq-eqb, ne_eqb}
use Rattle.std.specs.Prelude.{Result, Ok, Err, Option, Some}
use Rattle.std.specs.Prelude as std
use Rattle.flux.specs.Answers.{Filling, refuses}
use Rattle.refusals.specs.Refusals.{Fault, refusal, passes, refuse_if}
use Rattle.refusals.specs.Refusals as refusals
use Rattle.scp_fields.specs.declared.Edition.{Edition}
use Rattle.scp_fields.specs.Header.{stored_sum, track_entry}
use Rattle.refusals.proofs.Chain.{first_here, first_next}
use Rattle.scp_open.specs.Opening.{open_fault}
use Rattle.scp_tracks.specs.Revolutions.{data_of}
use Rattle.scp_tracks.specs.declared.RevolutionData.{RevolutionData}
use Rattle.scp_lookup.specs.Questions.{track_question, revolution_question}
use Rattle.scp_lookup.specs.Lookups.{found_track, found_revolution, track_on, flux_of, part_of, start_of}
use Rattle.scp_speed.specs.declared.TrackSpeeds.{TrackSpeeds}
use Rattle.scp_speed.specs.Speeds.{rpm_of, speed_of}
use Rattle.scp.specs.Validating.{wanted_sum, bad_sum, validate_fault}
use Rattle.scp.specs.Answers.{Answer, refused, none, footer, speeds, bytes, unless, of_track, track_values, track_answer, of_speed_only, of_track_speed, of_speed_range, of_revolution, revolution_values, revolution_answer, flux_answer, read_from}

-- ---- an answer, unless it is refused

module _ (q : Fault) (a : Answer) where
  pub unless_refused : {f : Fault} → f ≡ q → (f.number ≡ 0 → ⊥) → refused f.number f.position ≡ unless q a
  unless_refused {f} e n =
      ap (λ (x : Fault). refused x.number x.position) e
      ∙ sym (simp (ne_eqb q.number 0 (λ z. n (ap (λ (x : Fault). x.number) e ∙ z))))

  pub unless_passes : {x : Answer} → q.number ≡ 0 → x ≡ a → x ≡ unless q a
  unless_passes z e = e ∙ sym (simp (eq-eqb q.number 0 z))

-- ---- validating

module _ (v : Edition) (b : List ℕ) where
  pub validate_open : {f : Fault} → f ≡ open_fault v b → (f.number ≡ 0 → ⊥) → f ≡ validate_fault v b
  unfolding validate_fault
  validate_open e n = first_here (open_fault v b) _ e n

  sum_then : (open_fault v b).number ≡ 0 → refuse_if (bad_sum b) (refusal 12 0) refusals.none ≡ validate_fault v b
  unfolding validate_fault
  sum_then z = first_next (open_fault v b) _ refl z refl

  pub validate_sum : (open_fault v b).number ≡ 0 → (stored_sum b ≡ wanted_sum b → ⊥) → refusal 12 0 ≡ validate_fault v b
  validate_sum z n = unfold refuse_if in (sym (simp (ne_eqb (stored_sum b) (wanted_sum b) n)) ∙ sum_then z)

  pub validate_passes : (open_fault v b).number ≡ 0 → stored_sum b ≡ wanted_sum b → (validate_fault v b).number ≡ 0
  validate_passes z e =
      ap (λ (x : Fault). x.number) (sym (sum_then z)) ∙ unfold refuse_if in simp (eq-eqb (stored_sum b) (wanted_sum b) e)

-- a footer whose offsets and times are equal
pub footer_same : {o o' p p' q q' r r' s s' t t' : ℕ} {x x' y y' : ℤ} (vs : List ℕ)
    → o ≡ o' → p ≡ p' → q ≡ q' → r ≡ r' → s ≡ s' → t ≡ t' → x ≡ x' → y ≡ y'
    → footer (o ∷ p ∷ q ∷ r ∷ s ∷ t ∷ []) (x ∷ y ∷ []) vs ≡ footer (o' ∷ p' ∷ q' ∷ r' ∷ s' ∷ t' ∷ []) (x' ∷ y' ∷ []) vs
footer_same vs eo ep eq er es et ex ey = cc

-- the answer of a speed
speed_by : (x : Bool) (d : ℕ) → of_speed_only (cond x std.None (Some (rpm_of d))) ≡ cond x none (speeds (rpm_of d ∷ []))
speed_by true d = refl
speed_by false d = refl

pub speed_is : (d : ℕ) → of_speed_only (speed_of d) ≡ cond (eqb d 0) none (speeds (rpm_of d ∷ []))
unfolding speed_of
speed_is d = speed_by (eqb d 0) d

-- the answer of a track's speeds
pub speeds_told : (o : Option TrackSpeeds) → of_track_speed (Ok o) ≡ of_speed_range o
speeds_told (Some s) = refl
speeds_told std.None = refl

-- two speeds that are equal
pub speeds_same : {x x' y y' : Float} → x ≡ x' → y ≡ y' → speeds (x ∷ y ∷ []) ≡ speeds (x' ∷ y' ∷ [])
speeds_same ex ey = cc

-- ---- a track and a revolution

-- the number and the values of a track that q finds or refuses
module _ (b : List ℕ) (t : ℕ) (q : Fault) where
  track_by : (x : Bool) → of_track (track_on b t (cond x (Ok (track_entry b t)) (Err q)))
      ≡ cond x (track_values b t) (refused q.number q.position)
  track_by true = refl
  track_by false = refl

  pub track_told : of_track (track_on b t (refusals.unless q (Ok (track_entry b t)) Err)) ≡ unless q (track_values b t)
  track_told = track_by (passes q)

pub track_answer_is : (v : Edition) (b : List ℕ) (t : ℕ) → of_track (track_on b t (found_track v b t)) ≡ track_answer v b t
unfolding found_track track_answer
track_answer_is v b t = track_told b t (track_question v b t)

-- of a revolution that q finds or refuses, and of its flux
module _ (b : List ℕ) (t k : ℕ) (q : Fault) where
  -- the revolution as q has it
  abbrev told : Bool → Result RevolutionData Fault
  told x = cond x (Ok (data_of b (track_entry b t) k)) (Err q)

  -- the answer a as q has it
  abbrev answered : Answer → Bool → Answer
  answered a x = cond x a (refused q.number q.position)

  revolution_by : (x : Bool) → of_revolution (told x) ≡ answered (revolution_values b t k) x
  revolution_by true = refl
  revolution_by false = refl

  pub revolution_told : of_revolution (told (passes q)) ≡ unless q (revolution_values b t k)
  revolution_told = revolution_by (passes q)

  abbrev flux_by : Bool → Answer
  flux_by x = answered (bytes (start_of (told x)) (part_of b (told x))) x

  found_by : (x : Bool) (d : RevolutionData) → of_revolution (Ok d) ≡ answered (revolution_values b t k) x
      → bytes d.offset.0 (flux_of b d) ≡ flux_by x
  found_by true d e = cc
  found_by false d e = let z : ◌≡◌ {A = ℕ} 0 1 = cc in absurd (omega arith)

  refused_by : (x : Bool) (r : Fault) → of_revolution (Err r) ≡ answered (revolution_values b t k) x
      → refused r.number r.position ≡ flux_by x
  refused_by true r e = let z : ◌≡◌ {A = ℕ} 0 1 = cc in absurd (omega arith)
  refused_by false r e = e

  -- the flux that is answered, by what asking for the revolution gave
  pub flux_told : (d : RevolutionData) → of_revolution (Ok d) ≡ unless q (revolution_values b t k)
      → bytes d.offset.0 (flux_of b d) ≡ flux_by (passes q)
  flux_told = found_by (passes q)

  pub flux_untold : (r : Fault) → of_revolution (Err r) ≡ unless q (revolution_values b t k)
      → refused r.number r.position ≡ flux_by (passes q)
  flux_untold = refused_by (passes q)

module _ (v : Edition) (b : List ℕ) (t k : ℕ) where
  pub answer_is : of_revolution (found_revolution v b t k) ≡ revolution_answer v b t k
  unfolding found_revolution revolution_answer
  answer_is = revolution_told b t k (revolution_question v b t k)

  pub flux_found : (d : RevolutionData) → of_revolution (Ok d) ≡ revolution_answer v b t k
      → bytes d.offset.0 (flux_of b d) ≡ flux_answer v b t k
  unfolding found_revolution revolution_answer
  flux_found = flux_told b t k (revolution_question v b t k)

  pub flux_refused : (r : Fault) → of_revolution (Err r) ≡ revolution_answer v b t k
      → refused r.number r.position ≡ flux_answer v b t k
  unfolding found_revolution revolution_answer
  flux_refused = flux_untold b t k (revolution_question v b t k)

-- ---- what is read of a revolution's flux, of one that is found and of one that is refused

module _ (read : List ℕ → ℕ → Filling) (b : List ℕ) (places : ℕ) {r : Result RevolutionData Fault} where
  pub read_found : {s : List ℕ} {d : RevolutionData} → s ≡ flux_of b d → Ok d ≡ r → read s places ≡ read_from read b places r
  read_found e found = ap (λ (s : List ℕ). read s places) e ∙ ap (read_from read b places) found

  pub read_refused : {f : Fault} → Err f ≡ r → refuses f.number f.position ≡ read_from read b places r
  read_refused found = ap (read_from read b places) found
