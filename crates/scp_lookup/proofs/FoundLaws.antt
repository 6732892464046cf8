-- What finding a track or a revolution says: where it is found its numbers are the definition's, and its flux lies in the image.
use Prim.Native.Nat.{ℕ, ◌+◌, ◌*◌, ◌<◌, ◌≤◌}
use mathlib.Core.Path.{◌≡◌, refl, sym, ap, ◌∙◌}
use mathlib.Core.List.{List}
use mathlib.Core.Bool.{Bool, true, false, not, cond}
use native.Mathlib.Decide.{ℕ_discrete}
use native.Mathlib.Omega.{arith}
use lib.ListN.{length}
use lib.Dec.{eqb, leb, ltb}
use borrow.Author.Tests.{eq-eqb, ne_eqb, eqb-true, eqb-false, le-leb, lt-leb, leb-false}
use Rattle.std.specs.Prelude.{Result, Ok, Err, Option, Some, None, ok_or}
use Rattle.refusals.specs.Refusals.{Fault, none, refusal, passes, refuse_if, first_of, unless, in_table, found}
use Rattle.scp_fields.specs.declared.Edition.{Edition}
use Rattle.scp_fields.specs.Editions.{slots}
use Rattle.scp_fields.specs.Header.{revolutions, track_entry}
use Rattle.refusals.proofs.Answers.{unless_refused, unless_found}
use Rattle.refusals.specs.declared.Refusal.{Refusal}
use Rattle.refusals.proofs.Passing.{told_ok, told_err}
use Rattle.refusals.proofs.Chain.{first_here, first_next}
use Rattle.refusals.proofs.Finding.{is_refusal, not_refused, alike_end, alike_refuse, alike_first}
use Rattle.scp_tracks.specs.Tracks.{cylinder_of, head_of}
use Rattle.scp_tracks.specs.Revolutions.{data_of, revolution_of, of_presence, revolution_fault}
use Rattle.scp_tracks.specs.declared.RevolutionData.{RevolutionData}
use Rattle.scp_open.specs.Opening.{open_fault}
use Rattle.scp_open.proofs.Opens.{opens}
use Rattle.scp_lookup.specs.Questions.{track_then, track_question, revolution_question}
use Rattle.scp_lookup.specs.Lookups.{found_track, found_revolution, track_on, revolution_on, start_of, start_in}
use Rattle.scp_lookup.proofs.Asking.{TrackThere, then_rest, there, track_passes}

-- ---- a track

module _ (v : Edition) (b : List ℕ) (t : ℕ) where
  pub track_refused : {f : Fault} → f ≡ track_question v b t → (f.number ≡ 0 → ⊥) → Err f ≡ found_track v b t
  unfolding found_track
  track_refused {f} e n =
      ap Err e ∙ sym (simp (ne_eqb (track_question v b t).number 0 (λ z. n (ap (λ (x : Fault). x.number) e ∙ z))))

  pub track_found : TrackThere v b t → Ok (track_entry b t) ≡ found_track v b t
  unfolding found_track
  track_found h = sym (simp (eq-eqb (track_question v b t).number 0 (track_passes v b t h)))

  -- a track that is found is there, and its entry is the table's
  pub record FoundAt (e : ℕ) : Type 0 where
    pub present : TrackThere v b t
    pub same : e ≡ track_entry b t

  pub found_at : {e : ℕ} → Ok e ≡ found_track v b t → FoundAt e
  unfolding found_track
  found_at {e} h = go (passes (track_question v b t)) refl h
    where
      go : (x : Bool) → passes (track_question v b t) ≡ x
          → Ok e ≡ cond x (Ok (track_entry b t)) (Err (track_question v b t)) → FoundAt e
      go true q h = record { present = there v b t none (eqb-true (track_question v b t).number 0 q); same = cc }
      go false q h = let z : ◌≡◌ {A = ℕ} 0 1 = cc in absurd (omega arith)

  -- one that is refused is refused by the question
  pub record NotFound (f : Fault) : Type 0 where
    pub refuses : f ≡ track_question v b t
    pub number : f.number ≡ 0 → ⊥

  pub not_found : {f : Fault} → Err f ≡ found_track v b t → NotFound f
  unfolding found_track
  not_found {f} h = go (passes (track_question v b t)) refl h
    where
      go : (x : Bool) → passes (track_question v b t) ≡ x
          → Err f ≡ cond x (Ok (track_entry b t)) (Err (track_question v b t)) → NotFound f
      go true q h = let z : ◌≡◌ {A = ℕ} 0 1 = cc in absurd (omega arith)
      go false q h =
          let e : f ≡ track_question v b t = cc in
          record { refuses = e; number = λ z. eqb-false (track_question v b t).number 0 q (ap (λ (x : Fault). x.number) (sym e) ∙ z) }

-- the numbers of the track of an entry
pub track_on_is : (b : List ℕ) (t : ℕ) {e c h n : ℕ} → c ≡ cylinder_of t → h ≡ head_of t → n ≡ revolutions b
    → Ok (record { cylinder = c; head = h; offset = record { 0 = e }; revolutions = n }) ≡ track_on b t (Ok e)
track_on_is b t ec eh en = cc

-- a track that is refused is refused whatever comes after
refused_alike : (v : Edition) (b : List ℕ) (t : ℕ) (rest : Fault) → ((track_question v b t).number ≡ 0 → ⊥) → track_question v b t ≡ track_then v b t rest
unfolding track_then
refused_alike v b t rest =
    alike_first (open_fault v b) _ _
    (alike_refuse (leb (slots v) t) (refusal 13 0) _ _ (alike_refuse (eqb (track_entry b t) 0) (refusal 13 0) none rest (alike_end rest)))

-- a call on a track is the question for it, then the rest
pub then_first : (v : Edition) (b : List ℕ) (t : ℕ) (rest : Fault) → track_then v b t rest ≡ first_of (track_question v b t) rest
then_first v b t rest =
    elim (ℕ_discrete (track_question v b t).number 0) [
      | yes z ↦ sym (then_rest v b t rest (there v b t none z)) ∙ first_next (track_question v b t) rest refl z refl
      | no n ↦ sym (refused_alike v b t rest n) ∙ first_here (track_question v b t) rest refl n
    ]

-- ---- a revolution

-- a revolution read from its track header
module _ (b : List ℕ) (e k : ℕ) where
  -- absent: its number is that of the case
  pub absent_on : {f : Fault} → of_presence None ≡ revolution_fault b k → f ≡ of_presence None
      → Err f ≡ revolution_on b k (Ok e)
  absent_on l g = unless_refused (revolution_fault b k) _ Err (g ∙ l) (is_refusal 13 g)

  -- present: its numbers are those of the record
  pub present_on : {d : RevolutionData} → Some d ≡ revolution_of b e k → of_presence (Some d) ≡ revolution_fault b k
      → Ok d ≡ revolution_on b k (Ok e)
  unfolding revolution_of
  present_on {d} h l =
      unless_found (revolution_fault b k) _ Err (ap (λ (x : Fault). x.number) (sym l)) (ap Ok same)
    where
      by : (x : Bool) → Some d ≡ cond x (Some (data_of b e k)) None → d ≡ data_of b e k
      by true h = cc
      by false h = let z : ◌≡◌ {A = ℕ} 0 1 = cc in absurd (omega arith)

      same : d ≡ data_of b e k
      same = by (ltb k (revolutions b)) h

-- on a track that q found or refused: refused by q, then 14
module _ (b : List ℕ) (k e : ℕ) (q : Fault) where
  on_by : (x : Bool) → passes q ≡ x
      → revolution_on b k (cond x (Ok e) (Err q))
      ≡ unless (refuse_if (not x) q (revolution_fault b k)) (Ok (data_of b e k)) Err
  unfolding refuse_if
  on_by true h = refl
  on_by false h = sym (simp h)

  pub revolution_on_is : revolution_on b k (unless q (Ok e) Err)
      ≡ unless (first_of q (revolution_fault b k)) (Ok (data_of b e k)) Err
  unfolding first_of
  revolution_on_is = on_by (passes q) refl

-- what is said of a revolution is said of it as it was read
pub presence_on : (b : List ℕ) (e k : ℕ) (o : Option RevolutionData) (r : Refusal) → o ≡ revolution_of b e k → of_presence o ≡ revolution_fault b k
    → in_table r ≡ refusal 14 0 → found (ok_or o r) ≡ revolution_on b k (Ok e)
presence_on b e k None r h l g = absent_on b e k l g
presence_on b e k (Some d) r h l g = present_on b e k h l

-- flux that lies in the image starts where its numbers say
pub start_in_lem : (b : List ℕ) (r : Result RevolutionData Fault)
    → ((d : RevolutionData) → Ok d ≡ r → d.offset.0 + 2 * d.words ≤ length b) → start_in b r ≡ start_of r
start_in_lem b (Ok d) h = let within = h d refl in simp (le-leb d.offset.0 (length b) (omega arith))
start_in_lem b (Err f) h = refl

module _ (v : Edition) (b : List ℕ) (t k : ℕ) where
  -- the revolution of the track that is found
  pub found_on : revolution_on b k (found_track v b t) ≡ found_revolution v b t k
  unfolding found_track found_revolution
  found_on =
      revolution_on_is b k (track_entry b t) (track_question v b t)
      ∙ ap (λ (q : Fault). unless q (Ok (data_of b (track_entry b t) k)) Err)
      (sym (then_first v b t (revolution_fault b k)))

  -- the revolution is there
  pub record RevolutionThere : Type 0 where
    pub track : TrackThere v b t
    pub below : k < revolutions b

  pub revolution_passes : RevolutionThere → (revolution_question v b t k).number ≡ 0
  unfolding refuse_if
  revolution_passes h =
      ap (λ (x : Fault). x.number) (sym (then_rest v b t _ h.track)) ∙ simp (lt-leb (revolutions b) k h.below)

  pub revolution_there : (revolution_question v b t k).number ≡ 0 → RevolutionThere
  revolution_there z =
      let h = there v b t _ z in
      let rest = ap (λ (x : Fault). x.number) (then_rest v b t _ h) ∙ z in
      record { track = h; below = leb-false (revolutions b) k (not_refused (leb (revolutions b) k) 13 0 none rest).0 }

  pub revolution_found : {d : RevolutionData} → RevolutionThere → d ≡ data_of b (track_entry b t) k → Ok d ≡ found_revolution v b t k
  unfolding found_revolution
  revolution_found h e = ap Ok e ∙ sym (simp (eq-eqb (revolution_question v b t k).number 0 (revolution_passes h)))

  -- one that is found is there, and has its numbers
  pub record FoundData (d : RevolutionData) : Type 0 where
    pub present : RevolutionThere
    pub same : d ≡ data_of b (track_entry b t) k

  pub found_data : {d : RevolutionData} → Ok d ≡ found_revolution v b t k → FoundData d
  unfolding found_revolution
  found_data h =
      let told = told_ok (revolution_question v b t k) _ h in
      record { present = revolution_there told.0; same = told.1 }

  -- one that is refused is refused by the question
  pub record RevolutionRefused (f : Fault) : Type 0 where
    pub refuses : f ≡ revolution_question v b t k
    pub number : f.number ≡ 0 → ⊥

  pub found_refused : {f : Fault} → Err f ≡ found_revolution v b t k → RevolutionRefused f
  unfolding found_revolution
  found_refused h =
      let told = told_err (revolution_question v b t k) (data_of b (track_entry b t) k) h in
      record { refuses = told.0; number = told.1 }

  -- its flux lies in the image
  pub flux_within : {d : RevolutionData} → FoundData d → d.offset.0 + 2 * d.words ≤ length b
  flux_within {d} h =
      let present = h.present.track in
      let track = (opens v b present.opened).tracks t present.slot present.entry in
      let offset = ap (λ (x : RevolutionData). x.offset.0) h.same in
      let words = ap (λ (x : RevolutionData). x.words) h.same in
      let within = track.flux k h.present.below in
      omega arith

  -- so it starts where its numbers say
  pub found_start : start_in b (found_revolution v b t k) ≡ start_of (found_revolution v b t k)
  found_start = start_in_lem b (found_revolution v b t k) (λ d h. flux_within (found_data h))
