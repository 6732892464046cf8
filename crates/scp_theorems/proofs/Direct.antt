-- Where the image opens, the tests that a direct call leaves out refuse nothing, so that its question is the full one; and the full question
-- of an image that opens is refused by 13 or 14 alone.
use Prim.Native.Nat.{ℕ, ◌*◌, ◌<◌, ◌≤◌}
use mathlib.Core.Path.{◌≡◌, refl, sym, ap, ◌∙◌}
use mathlib.Core.Logic.{◌≢◌, inl, inr, ⊎_elim}
use mathlib.Core.List.{List}
use mathlib.Core.Bool.{Bool, true, false, cond}
use native.Mathlib.Omega.{arith}
use lib.ListN.{length}
use lib.Dec.{eqb, leb}
use borrow.Author.Tests.{leb-false}
use Rattle.std.specs.Prelude.{Ok, Err, Result}
use Rattle.refusals.specs.Refusals.{Fault, none, refusal, passes, refuse_if, first_of}
use Rattle.refusals.specs.Refusals as refusals
use Rattle.refusals.proofs.Chain.{first_next}
use Rattle.refusals.proofs.Finding.{both_clear, from_clear, holds_if, holds_first}
use Rattle.copies.proofs.Parts.{part_length}
use Rattle.scp_fields.specs.declared.Edition.{Edition}
use Rattle.scp_fields.specs.Editions.{slots}
use Rattle.scp_fields.specs.Header.{revolutions, track_entry}
use Rattle.scp_footer.specs.Footer.{footer_fault}
use Rattle.scp_header.specs.HeaderFault.{header_fault}
use Rattle.scp_tracks.specs.Tracks.{count_at, track_fault, tracks_fault}
use Rattle.scp_tracks.specs.Revolutions.{data_of, revolution_fault}
use Rattle.scp_open.specs.Opening.{open_fault}
use Rattle.scp_open.proofs.Opens.{clear_open}
use Rattle.scp_tracks.specs.declared.RevolutionData.{RevolutionData}
use Rattle.scp_lookup.specs.Questions.{track_then, track_question, revolution_question}
use Rattle.scp_lookup.specs.Lookups.{found_revolution, part_of, start_of}
use Rattle.scp_lookup.proofs.Asking.{then_open, opens_then}
use Rattle.scp_lookup.proofs.FoundLaws.{then_first}
use Rattle.scp.specs.Answers.{Answer, refused, numbers, bytes, unless, track_values, track_answer, revolution_values, revolution_answer, flux_start, flux_part}
use Rattle.scp.proofs.Answering.{unless_refused}
use Rattle.scp_theorems.proofs.Numbers.{Numbered, header_number, footer_number, track_number_lem, open_number}
use Rattle.scp_theorems.proofs.Editions.{other}
use Rattle.scp_theorems.proofs.Tracks.{counted}
use Rattle.scp_direct.proofs.DirectLaws.{clear_track, direct_is_found, direct_within}
use Rattle.scp_direct.specs.Direct.{direct_track_question, direct_revolution_question, direct_found, direct_track, direct_revolution, direct_part}
use Rattle.scp_theorems.specs.Direct.{SameAnswers, Agrees, OfOpening, RefusedToo, Sound, RefusesSoundly, DirectNeverFooter, DirectFluxIsCounted}
use Rattle.scp_theorems.specs.Theorems.{NotFooter}

-- an image that does not open is refused by one of 1 to 11 and 19
abbrev Opened : ℕ → Type 0
Opened n = (n ≡ 0 → ⊥) → OfOpening n

first : {n : ℕ} → n ≤ 11 → Opened n
first h n = inl (omega arith, h)

open_one : (v : Edition) (b : List ℕ) → Opened (open_fault v b).number
open_one v b =
    open_number Opened v b (first (omega arith)) (first (omega arith)) (first (omega arith)) (first (omega arith)) (first (omega arith))
    (first (omega arith)) (first (omega arith))
    (footer_number Opened v b (first (omega arith)) (first (omega arith)) (first (omega arith)) (λ n. inr refl))
    (first (omega arith)) (first (omega arith)) (first (omega arith))

-- ---- an image that opens

module _ (v : Edition) (b : List ℕ) (opens : open_fault v b ≡ none) where
  number : (open_fault v b).number ≡ 0
  number = ap (λ (f : Fault). f.number) opens

  -- neither its header nor a track is refused
  parts : ((header_fault v b).number ≡ 0) × ((tracks_fault v b).number ≡ 0)
  unfolding open_fault
  parts =
      let found = both_clear (header_fault v b) _ number in
      (found.0, (both_clear (footer_fault v b) (tracks_fault v b) found.1).1)

  track_clear : (t : ℕ) → t < slots v → track_fault v b t ≡ none
  track_clear t h =
      clear_track v b (track_entry b t) t (from_clear (track_fault v b) 0 (slots v) parts.1 t (omega arith) (omega arith))

  same_track : (t : ℕ) → direct_track_question v b t ≡ track_question v b t
  unfolding direct_track_question refuse_if
  same_track t =
      sym (first_next (header_fault v b) _ refl parts.0 refl) ∙ by (leb (slots v) t) refl ∙ opens_then v b t none number
    where
      by : (x : Bool) → leb (slots v) t ≡ x
          → refuse_if x (refusal 13 0) (refuse_if (eqb (track_entry b t) 0) (refusal 13 0) (track_fault v b t))
          ≡ refuse_if x (refusal 13 0) (refuse_if (eqb (track_entry b t) 0) (refusal 13 0) none)
      by true h = refl
      by false h = ap (λ (f : Fault). refuse_if (eqb (track_entry b t) 0) (refusal 13 0) f) (track_clear t (leb-false (slots v) t h))

  same_revolution : (t k : ℕ) → direct_revolution_question v b t k ≡ revolution_question v b t k
  unfolding direct_revolution_question
  same_revolution t k =
      ap (λ (q : Fault). first_of q (revolution_fault b k)) (same_track t) ∙ sym (then_first v b t (revolution_fault b k))

  same_found : (t k : ℕ) → direct_found v b t k ≡ found_revolution v b t k
  unfolding direct_found found_revolution
  same_found t k =
      ap (λ (q : Fault). refusals.unless q (Ok (data_of b (track_entry b t) k)) Err)
      (same_revolution t k)

  pub same_answers : SameAnswers v b
  unfolding direct_track track_answer direct_revolution revolution_answer
  same_answers =
      record {
        track = λ t. ap (λ (q : Fault). unless q (track_values b t)) (same_track t);
        revolution = λ t k. ap (λ (q : Fault). unless q (revolution_values b t k)) (same_revolution t k);
        flux = λ t k.
            ap (λ (r : Result RevolutionData Fault). unless (direct_revolution_question v b t k) (bytes (start_of r) (part_of b r))) (same_found t k)
            ∙ ap (λ (q : Fault). unless q (bytes (flux_start v b t k) (flux_part v b t k))) (same_revolution t k);
        part = λ t k. ap (part_of b) (same_found t k);
        start = λ t k. ap start_of (same_found t k);
      }

  -- the number of a refusal is not one of 1 to 11 and 19
  abbrev Later : Fault → Type 0
  Later f = OfOpening f.number → ⊥

  late : (n : ℕ) → 12 ≤ n → n ≤ 18 → Later (refusal n 0)
  late n h k = ⊎_elim (λ o. omega (arith, o.1)) (λ o. omega arith)

  late_none : Later none
  late_none = ⊎_elim (λ o. omega (arith, o.0)) (λ o. omega arith)

  late_then : (t : ℕ) (rest : Fault) → Later rest → Later (track_then v b t rest)
  late_then t rest h =
      rw (sym (opens_then v b t rest number))
      (holds_if Later (leb (slots v) t) (refusal 13 0) _ (late 13 (omega arith) (omega arith))
      (holds_if Later (eqb (track_entry b t) 0) (refusal 13 0) rest (late 13 (omega arith) (omega arith)) h))

  late_track : (t : ℕ) → Later (track_question v b t)
  late_track t = late_then t none late_none

  late_revolution : (t k : ℕ) → Later (revolution_question v b t k)
  late_revolution t k =
      late_then t _ (holds_if Later (leb (revolutions b) k) (refusal 14 0) none (late 14 (omega arith) (omega arith)) late_none)

pub agrees : Agrees
agrees = same_answers

-- ---- a refusal by 1 to 11 and 19

-- an answer that is a refusal has the number of what refuses
told_number : (q : Fault) (a : Answer) (n p : ℕ) → (a ≡ refused n p → ⊥) → unless q a ≡ refused n p → q.number ≡ n
told_number q a n p other e = by (passes q) e
  where
    by : (x : Bool) → cond x a (refused q.number q.position) ≡ refused n p → q.number ≡ n
    by true e = absurd (other e)
    by false e = cc

-- an answer with values is none
no_numbers : (n p : ℕ) (vs : List ℕ) → numbers vs ≡ refused n p → ⊥
no_numbers n p vs e = let z : ◌≡◌ {A = ℕ} 0 1 = cc in absurd (omega arith)

no_bytes : (n p s : ℕ) (bs : List ℕ) → bytes s bs ≡ refused n p → ⊥
no_bytes n p s bs e = let z : ◌≡◌ {A = ℕ} 0 1 = cc in absurd (omega arith)

module _ (v : Edition) (b : List ℕ) (n p : ℕ) (one : OfOpening n) where
  -- where the question is refused by nothing of 1 to 11 and 19 once the image opens, the image does not open
  closed : (q : Fault) (a : Answer) → (a ≡ refused n p → ⊥) → unless q a ≡ refused n p → (OfOpening q.number → ⊥) → ⊥
  closed q a other e h = h (rw (told_number q a n p other e) one)

  -- then the full call is refused by opening
  too : (t : ℕ) (rest : Fault) (a : Answer) → open_fault v b ≢ none → RefusedToo v b (unless (track_then v b t rest) a)
  too t rest a shut =
      let nonzero : (open_fault v b).number ≡ 0 → ⊥ = λ z. shut (clear_open v b z) in
      record { opening = shut; number = open_one v b nonzero; answer = sym (unless_refused (track_then v b t rest) a (then_open v b t rest refl nonzero) nonzero) }

  sound : Sound v b n p
  unfolding track_answer revolution_answer
  sound =
      record {
        track = λ t e.
            too t none _ (λ opens.
            closed (track_question v b t) _ (no_numbers n p _) (sym ((same_answers v b opens).track t) ∙ e) (late_track v b opens t));
        revolution = λ t k e.
            too t _ _ (λ opens.
            closed (revolution_question v b t k) _ (no_numbers n p _) (sym ((same_answers v b opens).revolution t k) ∙ e) (late_revolution v b opens t k));
        flux = λ t k e.
            too t _ _ (λ opens.
            closed (revolution_question v b t k) _ (no_bytes n p _ _) (sym ((same_answers v b opens).flux t k) ∙ e) (late_revolution v b opens t k));
      }

pub refuses_soundly : RefusesSoundly
refuses_soundly = sound

-- ---- no number of the footer

not_footer_track : (v : Edition) (b : List ℕ) (t : ℕ) → NotFooter (direct_track_question v b t).number
unfolding direct_track_question
not_footer_track v b t =
    holds_first (Numbered NotFooter) (header_fault v b) _
    (header_number NotFooter v b (other 0 refl) (other 1 refl) (other 2 refl) (other 3 refl) (other 4 refl) (other 5 refl) (other 6 refl))
    (holds_if (Numbered NotFooter) _ _ _ (other 13 refl)
    (holds_if (Numbered NotFooter) _ _ _ (other 13 refl)
    (track_number_lem NotFooter v b (other 0 refl) (other 9 refl) (other 10 refl) (other 11 refl) t)))

not_footer_revolution : (v : Edition) (b : List ℕ) (t k : ℕ) → NotFooter (direct_revolution_question v b t k).number
unfolding direct_revolution_question
not_footer_revolution v b t k =
    holds_first (Numbered NotFooter) (direct_track_question v b t) _ (not_footer_track v b t)
    (holds_if (Numbered NotFooter) (leb (revolutions b) k) (refusal 14 0) none (other 14 refl) (other 0 refl))

pub direct_never_footer : DirectNeverFooter
unfolding direct_track direct_revolution
direct_never_footer v b n p =
    record {
      track = λ t e. rw (told_number (direct_track_question v b t) _ n p (no_numbers n p _) e) at (not_footer_track v b t);
      revolution = λ t k e. rw (told_number (direct_revolution_question v b t k) _ n p (no_numbers n p _) e) at (not_footer_revolution v b t k);
      flux = λ t k e. rw (told_number (direct_revolution_question v b t k) _ n p (no_bytes n p _ _) e) at (not_footer_revolution v b t k);
    }

-- ---- their flux

-- the flux of one that is not refused is as long as its count says
pub direct_length : (v : Edition) (b : List ℕ) (t k : ℕ) → (direct_revolution_question v b t k).number ≡ 0
    → length (direct_part v b t k) ≡ 2 * count_at b (track_entry b t) k
direct_length v b t k z =
    let found = direct_is_found v b t k z in
    ap (λ (r : Result RevolutionData Fault). length (part_of b r)) (sym found) ∙ part_length b _ _ (direct_within v b t k _ found)

pub direct_flux_is_counted : DirectFluxIsCounted
unfolding direct_revolution
direct_flux_is_counted v b t k duration words offset e =
    let held = counted (direct_revolution_question v b t k) b t k duration words offset e in
    direct_length v b t k held.0 ∙ ap (λ (n : ℕ). 2 * n) held.1
