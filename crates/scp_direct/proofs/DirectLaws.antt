-- The chain of refusals of a direct call, and what is answered of what it finds.
use Prim.Native.Nat.{ℕ, ◌+◌, ◌-◌, ◌*◌, ◌<◌, ◌≤◌}
use mathlib.Core.Path.{◌≡◌, refl, sym, ap, ◌∙◌}
use mathlib.Core.List.{List}
use mathlib.Core.Bool.{Bool, true, false, not}
use native.Mathlib.Decide.{ℕ_discrete}
use native.Mathlib.Omega.{arith}
use lib.ListN.{length}
use lib.Dec.{eqb, leb}
use borrow.Author.Tests.{eq-eqb, ne_eqb, eqb-true, eqb-false, le-leb, lt-leb, leb-true, leb-false}
use Rattle.refusals.specs.Refusals.{Fault, none, refusal, passes, refuse_if, first_of}
use Rattle.refusals.specs.Search.{first_from}
use Rattle.refusals.proofs.Passing.{told_ok}
use Rattle.std.specs.Prelude.{Ok, Err}
use Rattle.refusals.proofs.Answers.{unless_refused, unless_found}
use Rattle.refusals.proofs.Chain.{refuse_here, refuse_next, first_here, first_next}
use Rattle.refusals.proofs.Finding.{both_clear, not_refused, excuse, Clear, clear_refuse}
use Rattle.scp_fields.specs.declared.Edition.{Edition}
use Rattle.scp_fields.specs.Editions.{slots}
use Rattle.scp_fields.specs.Header.{revolutions, track_entry}
use Rattle.scp_header.specs.HeaderFault.{header_fault}
use Rattle.scp_tracks.specs.Tracks.{bad_slot, bad_track, bad_flux, track_fault_at, track_fault, walk_end, tracks_fault_in}
use Rattle.scp_tracks.specs.Revolutions.{data_of, revolution_fault}
use Rattle.scp_tracks.specs.declared.RevolutionData.{RevolutionData}
use Rattle.scp_open.specs.Opening.{fault_in}
use Rattle.scp_open.proofs.Opens.{track_holds}
use Rattle.scp_lookup.specs.Lookups.{track_on, revolution_on, flux_of, start_of, start_in}
use Rattle.scp_lookup.proofs.FoundLaws.{revolution_on_is, start_in_lem}
use Rattle.scp.specs.Answers.{refused, bytes, of_track, of_revolution}
use Rattle.scp.proofs.Answering.{track_told, revolution_told, flux_told, flux_untold}
use Rattle.scp_direct.specs.Direct.{direct_track_question, direct_revolution_question, direct_entry, direct_found, direct_track, direct_revolution, direct_flux}

-- ---- a track

-- a finding of a track with number 0 is none
pub clear_track : (v : Edition) (b : List ℕ) (e t : ℕ) → Clear (track_fault_at v b e t)
unfolding track_fault_at refuse_if
clear_track v b e t = by (eqb e 0)
  where
    by : (x : Bool)
        → Clear
        (refuse_if x none
        (refuse_if (bad_slot b t) (refusal 9 t) (refuse_if (bad_track v b e t) (refusal 10 t) (refuse_if (bad_flux v b e) (refusal 11 t) none))))
    by true = λ z. refl
    by false =
        clear_refuse (bad_slot b t) 8 t _
        (clear_refuse (bad_track v b e t) 9 t _
        (clear_refuse (bad_flux v b e) 10 t none (λ z. refl)))

-- what comes after a finding is none where nothing does
first_alone : (f : Fault) → Clear f → first_of f none ≡ f
unfolding first_of refuse_if
first_alone f clear = by (passes f) refl
  where
    by : (x : Bool) → passes f ≡ x → refuse_if (not x) f none ≡ f
    by true p = sym (clear (eqb-true f.number 0 p))
    by false p = refl

-- a walk over one track that the table has
one_walk : (v : Edition) (b : List ℕ) (t : ℕ) → t < slots v → tracks_fault_in v b t (t + 1) ≡ track_fault v b t
unfolding first_from
one_walk v b t h =
    let end : walk_end v (t + 1) ≡ t + 1 = simp (le-leb (t + 1) (slots v) (omega arith)) in
    let one : walk_end v (t + 1) - t ≡ 1 = omega arith in
    ap (first_from (track_fault v b) t) one ∙ first_alone (track_fault v b t) (clear_track v b (track_entry b t) t)

-- over a track that it has not
no_walk : (v : Edition) (b : List ℕ) (t : ℕ) → slots v ≤ t → (tracks_fault_in v b t (t + 1)).number ≡ 0
unfolding first_from
no_walk v b t h =
    let end : walk_end v (t + 1) ≡ slots v = simp (lt-leb (t + 1) (slots v) (omega arith)) in
    let zero : walk_end v (t + 1) - t ≡ 0 = omega arith in
    ap (λ (n : ℕ). (first_from (track_fault v b) t n).number) zero

-- a track with entry 0
absent_clear : (v : Edition) (b : List ℕ) (t : ℕ) → track_entry b t ≡ 0 → (track_fault v b t).number ≡ 0
unfolding track_fault_at
absent_clear v b t a = excuse (eqb (track_entry b t) 0) _ (λ q. absurd (eqb-false (track_entry b t) 0 q a))

module _ (v : Edition) (b : List ℕ) (t : ℕ) where
  pub entry_refused : {f : Fault} → f ≡ direct_track_question v b t → (f.number ≡ 0 → ⊥) → Err f ≡ direct_entry v b t
  unfolding direct_entry
  entry_refused e n = unless_refused (direct_track_question v b t) _ Err e n

  pub by_header : {f : Fault} → f ≡ header_fault v b → (f.number ≡ 0 → ⊥) → f ≡ direct_track_question v b t
  unfolding direct_track_question
  by_header e n = first_here (header_fault v b) _ e n

  -- past the header
  module _ (z : (header_fault v b).number ≡ 0) where
    pub by_slot : {f : Fault} → slots v ≤ t → f ≡ refusal 13 0 → f ≡ direct_track_question v b t
    unfolding direct_track_question
    by_slot h e = first_next (header_fault v b) _ refl z (refuse_here (leb (slots v) t) _ _ (le-leb (slots v) t h) e)

    pub by_entry : {f : Fault} → t < slots v → track_entry b t ≡ 0 → f ≡ refusal 13 0 → f ≡ direct_track_question v b t
    unfolding direct_track_question
    by_entry h a e =
        first_next (header_fault v b) _ refl z
        (refuse_next (leb (slots v) t) _ _ (lt-leb (slots v) t h) (refuse_here (eqb (track_entry b t) 0) _ _ (eq-eqb (track_entry b t) 0 a) e))

    pub by_track : {f : Fault} → t < slots v → (track_entry b t ≡ 0 → ⊥) → f ≡ tracks_fault_in v b t (t + 1) → f ≡ direct_track_question v b t
    unfolding direct_track_question
    by_track h a e =
        first_next (header_fault v b) _ refl z
        (refuse_next (leb (slots v) t) _ _ (lt-leb (slots v) t h) (refuse_next (eqb (track_entry b t) 0) _ _ (ne_eqb (track_entry b t) 0 a) (e ∙ one_walk v b t h)))

  -- what refuses the header and this track refuses the call: 13 is for tracks of which nothing is tested
  pub asked_first : {f : Fault} → f ≡ fault_in v b false t (t + 1) → (f.number ≡ 0 → ⊥) → f ≡ direct_track_question v b t
  asked_first {f} e n = elim (ℕ_discrete (header_fault v b).number 0) [ yes z ↦ behind z | no h ↦ by_header (e ∙ sym (first_here (header_fault v b) _ refl h)) n ]
    where
      walked : (header_fault v b).number ≡ 0 → f ≡ tracks_fault_in v b t (t + 1)
      walked z = e ∙ sym (first_next (header_fault v b) _ refl z (first_next none (tracks_fault_in v b t (t + 1)) refl refl refl))

      refuses : (header_fault v b).number ≡ 0 → (tracks_fault_in v b t (t + 1)).number ≡ 0 → ⊥
      refuses z q = n (ap (λ (x : Fault). x.number) (walked z) ∙ q)

      behind : (header_fault v b).number ≡ 0 → f ≡ direct_track_question v b t
      behind z = by (leb (slots v) t) refl
        where
          by : (x : Bool) → leb (slots v) t ≡ x → f ≡ direct_track_question v b t
          by true h = absurd (refuses z (no_walk v b t (leb-true (slots v) t h)))
          by false h =
              let slot = leb-false (slots v) t h in
              by_track z slot (λ a. refuses z (ap (λ (x : Fault). x.number) (one_walk v b t slot) ∙ absent_clear v b t a)) (walked z)

  -- where nothing does, neither does the header, nor the track
  pub first_clear : {f : Fault} → f ≡ fault_in v b false t (t + 1) → f.number ≡ 0
      → ((header_fault v b).number ≡ 0) × ((tracks_fault_in v b t (t + 1)).number ≡ 0)
  first_clear e z =
      let both = both_clear (header_fault v b) _ (ap (λ (x : Fault). x.number) (sym e) ∙ z) in
      (both.0, (both_clear none (tracks_fault_in v b t (t + 1)) both.1).1)

  -- the header is not refused, and the track is there and not refused
  pub record DirectThere : Type 0 where
    pub slot : t < slots v
    pub entry : track_entry b t ≡ 0 → ⊥
    pub holds : (track_fault v b t).number ≡ 0

  pub direct_there : (direct_track_question v b t).number ≡ 0 → DirectThere
  unfolding direct_track_question
  direct_there z =
      let first = both_clear (header_fault v b) _ z in
      let high = not_refused (leb (slots v) t) 12 0 _ first.1 in
      let absent = not_refused (eqb (track_entry b t) 0) 12 0 _ high.1 in
      record {
        slot = leb-false (slots v) t high.0;
        entry = eqb-false (track_entry b t) 0 absent.0;
        holds = absent.1;
      }

  pub entry_found : {e : ℕ} → (direct_track_question v b t).number ≡ 0 → e ≡ track_entry b t → Ok e ≡ direct_entry v b t
  unfolding direct_entry
  entry_found z e = unless_found (direct_track_question v b t) _ Err z (ap Ok e)

  pub direct_track_is : of_track (track_on b t (direct_entry v b t)) ≡ direct_track v b t
  unfolding direct_entry direct_track
  direct_track_is = track_told b t (direct_track_question v b t)

-- ---- a revolution

module _ (v : Edition) (b : List ℕ) (t k : ℕ) where
  pub direct_on : revolution_on b k (direct_entry v b t) ≡ direct_found v b t k
  unfolding direct_entry direct_found direct_revolution_question
  direct_on = revolution_on_is b k (track_entry b t) (direct_track_question v b t)

  pub direct_revolution_is : of_revolution (direct_found v b t k) ≡ direct_revolution v b t k
  unfolding direct_found direct_revolution
  direct_revolution_is = revolution_told b t k (direct_revolution_question v b t k)

  -- one that is not refused is found
  pub direct_is_found : (direct_revolution_question v b t k).number ≡ 0 → Ok (data_of b (track_entry b t) k) ≡ direct_found v b t k
  unfolding direct_found
  direct_is_found z = unless_found (direct_revolution_question v b t k) _ Err z refl

  -- its track is there, and it is below R
  pub direct_below : (direct_revolution_question v b t k).number ≡ 0 → DirectThere v b t × (k < revolutions b)
  unfolding direct_revolution_question
  direct_below z =
      let both = both_clear (direct_track_question v b t) (revolution_fault b k) z in
      (direct_there v b t both.0, leb-false (revolutions b) k (not_refused (leb (revolutions b) k) 13 0 none both.1).0)

  -- the flux of one that is found lies in the image
  pub direct_within : (d : RevolutionData) → Ok d ≡ direct_found v b t k → d.offset.0 + 2 * d.words ≤ length b
  unfolding direct_found
  direct_within d h =
      let told = told_ok (direct_revolution_question v b t k) _ h in
      let held = direct_below told.0 in
      let track = (track_holds v b (track_entry b t) t).0 held.0.holds held.0.entry in
      let offset = ap (λ (x : RevolutionData). x.offset.0) told.1 in
      let words = ap (λ (x : RevolutionData). x.words) told.1 in
      let within = track.flux k held.1 in
      omega arith

  pub direct_start_lem : start_in b (direct_found v b t k) ≡ start_of (direct_found v b t k)
  direct_start_lem = start_in_lem b (direct_found v b t k) direct_within

  -- the flux that is answered, by what asking for the revolution gave
  pub direct_flux_found : (d : RevolutionData) → of_revolution (Ok d) ≡ direct_revolution v b t k
      → bytes d.offset.0 (flux_of b d) ≡ direct_flux v b t k
  unfolding direct_found direct_revolution
  direct_flux_found = flux_told b t k (direct_revolution_question v b t k)

  pub direct_flux_refused : (r : Fault) → of_revolution (Err r) ≡ direct_revolution v b t k
      → refused r.number r.position ≡ direct_flux v b t k
  unfolding direct_found direct_revolution
  direct_flux_refused = flux_untold b t k (direct_revolution_question v b t k)
