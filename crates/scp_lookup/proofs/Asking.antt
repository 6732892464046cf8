-- The chain of refusals of a call: what an opened image says of it, and what comes after the track.
use Prim.Native.Nat.{ℕ, ◌<◌, ◌≤◌}
use mathlib.Core.Path.{◌≡◌, refl, sym, ap, ◌∙◌}
use mathlib.Core.List.{List}
use native.Mathlib.Omega.{arith}
use lib.ListN.{length, get_or}
use lib.Dec.{eqb, leb}
use borrow.Author.Tests.{eq-eqb, ne_eqb, eqb-false, le-leb, lt-leb, leb-false}
use Rattle.refusals.specs.Refusals.{Fault, refusal, passes, refuse_if}
use Rattle.refusals.specs.Refusals as refusals
use Rattle.scp_fields.specs.declared.Edition.{Edition}
use Rattle.scp_fields.specs.Editions.{slots}
use Rattle.scp_fields.specs.Header.{track_slots, track_entry, held_entry}
use Rattle.scp_fields.proofs.EditionLaws.{slots_least, slots_most, held_in}
use Rattle.refusals.proofs.Chain.{first_here, first_next}
use Rattle.refusals.proofs.Finding.{both_clear, not_refused}
use Rattle.refusals.proofs.Passing.{told_ok, told_err}
use Rattle.std.specs.Prelude.{Ok, Err}
use Rattle.scp_open.specs.Opening.{open_fault, opened_image, header_of, opened_of}
use Rattle.scp_open.specs.declared.Opened.{Opened}
use Rattle.scp_open.proofs.Opens.{opens}
use Rattle.scp_open.proofs.Table.{list_at}
use Rattle.scp_lookup.specs.Questions.{track_then, track_question}

-- ---- an opened image

module _ (v : Edition) (b : List ℕ) where
  -- what refuses an image is what opening finds
  pub opened_err : {f : Fault} → Err f ≡ opened_of v b → (f ≡ open_fault v b) × (f.number ≡ 0 → ⊥)
  unfolding opened_of
  opened_err e = told_err (open_fault v b) (opened_image v b) e

  pub opened_ok : {o : Opened} → Ok o ≡ opened_of v b → ((open_fault v b).number ≡ 0) × (o ≡ opened_image v b)
  unfolding opened_of
  opened_ok e = told_ok (open_fault v b) (opened_image v b) e

  pub opened_header : {o : Opened} → Ok o ≡ opened_of v b → o.header ≡ header_of b
  opened_header e = ap (λ (x : Opened). x.header) (opened_ok e).1

  -- the table has the entry of each track
  pub opened_entry : {o : Opened} → Ok o ≡ opened_of v b → (t : ℕ) → t < slots v → get_or o.table t 0 ≡ track_entry b t
  opened_entry e t h =
      let held = list_at (held_entry v b) track_slots t (omega (arith, slots_most v)) in
      ap (λ (x : Opened). get_or x.table t 0) (opened_ok e).1 ∙ held ∙ held_in v b t h

  -- an image that opens is at least as long as the shortest table
  pub open_least : (open_fault v b).number ≡ 0 → 680 ≤ length b
  open_least z = let least = (opens v b z).least in omega (arith, slots_least v)

-- ---- what comes after the track

module _ (v : Edition) (b : List ℕ) (t : ℕ) where
  -- the track is there, in an image that opens
  pub record TrackThere : Type 0 where
    pub opened : (open_fault v b).number ≡ 0
    pub slot : t < slots v
    pub entry : track_entry b t ≡ 0 → ⊥

  pub then_open : {f : Fault} (rest : Fault) → f ≡ open_fault v b → (f.number ≡ 0 → ⊥) → f ≡ track_then v b t rest
  unfolding track_then
  then_open rest e n = first_here (open_fault v b) _ e n

  pub opens_then : (rest : Fault) → (open_fault v b).number ≡ 0
      → refuse_if (leb (slots v) t) (refusal 13 0) (refuse_if (eqb (track_entry b t) 0) (refusal 13 0) rest) ≡ track_then v b t rest
  unfolding track_then
  opens_then rest z = first_next (open_fault v b) _ refl z refl

  pub then_high : (rest : Fault) → (open_fault v b).number ≡ 0 → slots v ≤ t → refusal 13 0 ≡ track_then v b t rest
  then_high rest z h = unfold refuse_if in (sym (simp (le-leb (slots v) t h)) ∙ opens_then rest z)

  pub then_absent : (rest : Fault) → (open_fault v b).number ≡ 0 → t < slots v → track_entry b t ≡ 0 → refusal 13 0 ≡ track_then v b t rest
  then_absent rest z h e =
      unfold refuse_if in (sym (simp (lt-leb (slots v) t h, eq-eqb (track_entry b t) 0 e)) ∙ opens_then rest z)

  pub then_rest : (rest : Fault) → TrackThere → rest ≡ track_then v b t rest
  then_rest rest h =
      unfold refuse_if in
      (sym (simp (lt-leb (slots v) t h.slot, ne_eqb (track_entry b t) 0 h.entry)) ∙ opens_then rest h.opened)

  -- a call that is not refused finds the track
  pub there : (rest : Fault) → (track_then v b t rest).number ≡ 0 → TrackThere
  unfolding track_then
  there rest h =
      let first = both_clear (open_fault v b) _ h in
      let high = not_refused (leb (slots v) t) 12 0 _ first.1 in
      let absent = not_refused (eqb (track_entry b t) 0) 12 0 rest high.1 in
      record {
        opened = first.0;
        slot = leb-false (slots v) t high.0;
        entry = eqb-false (track_entry b t) 0 absent.0;
      }

  pub track_passes : TrackThere → (track_question v b t).number ≡ 0
  track_passes h = ap (λ (x : Fault). x.number) (sym (then_rest refusals.none h))
