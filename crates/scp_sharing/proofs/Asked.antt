-- A call on a revolution asks for it first: what refuses the question refuses the call, and where the revolution is there what comes after
-- decides.
use Prim.Native.Nat.{ℕ, ◌<◌}
use mathlib.Core.Path.{◌≡◌, refl, sym, ap, ◌∙◌}
use mathlib.Core.Logic.{◌≢◌}
use mathlib.Core.List.{List}
use mathlib.Core.Bool.{Bool, true, false, not}
use native.Mathlib.Omega.{arith}
use lib.ListN.{length}
use lib.Dec.{eqb, leb}
use borrow.Author.Tests.{lt-leb, leb-false}
use Rattle.refusals.specs.Refusals.{Fault, none, refusal, passes, refuse_if, first_of}
use Rattle.refusals.proofs.Chain.{refuse_here, refuse_next}
use Rattle.refusals.proofs.Finding.{not_refused}
use Rattle.scp_fields.specs.declared.Edition.{Edition}
use Rattle.scp_fields.specs.Editions.{slots}
use Rattle.scp_fields.specs.Header.{revolutions, track_entry}
use Rattle.scp_tracks.specs.Tracks.{count_at}
use Rattle.scp_tracks.specs.declared.RevolutionData.{RevolutionData}
use Rattle.scp_open.specs.Opening.{open_fault}
use Rattle.scp_open.specs.Validity.{Opens}
use Rattle.scp_open.proofs.Opens.{opens, clears}
use Rattle.scp_lookup.specs.Questions.{track_then, revolution_then, revolution_question}
use Rattle.scp_lookup.proofs.Asking.{there, then_rest}
use Rattle.scp_lookup.proofs.FoundLaws.{RevolutionThere, FoundData}
use Rattle.scp_sharing.specs.Claims.{stand_at, shared}
use Rattle.scp_sharing.specs.RewriteFault.{bad_words, words_then_shared, rewrite_fault}
use Rattle.scp_sharing.specs.Sharing.{Present}
use Rattle.scp_sharing.specs.Walk.{HeadersInside}
use Rattle.scp_sharing.specs.declared.Stand.{Stand}

module _ (v : Edition) (b : List ℕ) (t k : ℕ) (rest : Fault) where
  pub question_first : revolution_question v b t k ≢ none → revolution_then v b t k rest ≡ revolution_question v b t k
  unfolding track_then first_of refuse_if
  question_first = by (passes (open_fault v b)) (leb (slots v) t) (eqb (track_entry b t) 0) (leb (revolutions b) k)
    where
      asking : Bool → Bool → Bool → Bool → Fault → Fault
      asking opens high absent beyond last =
          refuse_if (not opens) (open_fault v b)
          (refuse_if high (refusal 13 0) (refuse_if absent (refusal 13 0) (refuse_if beyond (refusal 14 0) last)))

      by : (w x y z : Bool) → asking w x y z none ≢ none → asking w x y z rest ≡ asking w x y z none
      by false x y z n = refl
      by true true y z n = refl
      by true false true z n = refl
      by true false false true n = refl
      by true false false false n = absurd (n refl)

  pub there_then : RevolutionThere v b t k → revolution_then v b t k rest ≡ rest
  unfolding refuse_if
  there_then h = sym (then_rest v b t _ h.track) ∙ simp (lt-leb (revolutions b) k h.below)

-- the header of each track that is there ends at or below E, so inside the image
pub headers_inside : {v : Edition} {b : List ℕ} → Opens v b → HeadersInside v b
headers_inside o u h n = let below = (o.tracks u h n).below in omega arith

-- ---- what refuses a rewrite

module _ (v : Edition) (b : List ℕ) (t k : ℕ) (ws : List ℕ) where
  pub fault_refused : {f : Fault} → f ≡ revolution_question v b t k → f.number ≢ 0 → f ≡ rewrite_fault v b t k ws
  unfolding rewrite_fault
  fault_refused {f} e n = e ∙ sym (question_first v b t k _ (λ z. n (ap (λ (x : Fault). x.number) (e ∙ z))))

  pub fault_there : RevolutionThere v b t k → words_then_shared v b (track_entry b t) t k (length ws) ≡ rewrite_fault v b t k ws
  unfolding rewrite_fault
  fault_there h = sym (there_then v b t k _ h)

  -- a revolution that was found: the test x of the words, and the test y of the sharing, of what stands at the entry that was read again
  module _ {d : RevolutionData} {x : Bool} (found : FoundData v b t k d) (words : x ≡ bad_words d.words (length ws)) where
    words_is : bad_words (count_at b (track_entry b t) k) (length ws) ≡ x
    words_is = sym (words ∙ ap (λ (r : RevolutionData). bad_words r.words (length ws)) found.same)

    pub words_refuse : x ≡ true → refusal 17 0 ≡ rewrite_fault v b t k ws
    unfolding words_then_shared
    words_refuse bad = refuse_here _ _ _ (words_is ∙ bad) refl ∙ fault_there found.present

    module _ {y : Bool} {e : ℕ} {s : Stand} (good : x ≡ false) (entry : e ≡ track_entry b t) (stand : s ≡ stand_at b e k)
        (claims : y ≡ shared v b s t k) where
      shared_is : shared v b (stand_at b (track_entry b t) k) t k ≡ y
      shared_is =
          let stands = stand ∙ ap (λ (i : ℕ). stand_at b i k) entry in
          sym (claims ∙ ap (λ (z : Stand). shared v b z t k) stands)

      pub shared_refuse : y ≡ true → refusal 18 0 ≡ rewrite_fault v b t k ws
      unfolding words_then_shared
      shared_refuse twice = refuse_next _ _ _ (words_is ∙ good) (refuse_here _ _ _ (shared_is ∙ twice) refl) ∙ fault_there found.present

      pub none_refuse : y ≡ false → none ≡ rewrite_fault v b t k ws
      unfolding words_then_shared
      none_refuse free = refuse_next _ _ _ (words_is ∙ good) (refuse_next _ _ _ (shared_is ∙ free) refl) ∙ fault_there found.present

-- ---- a revolution that can be asked for

-- The image opens, and has the track and the revolution.
pub record Asked (v : Edition) (b : List ℕ) (t k : ℕ) : Type 0 where
  pub opens : Opens v b
  pub present : Present v b t
  pub below : k < revolutions b

module _ (v : Edition) (b : List ℕ) (t k : ℕ) (rest : Fault) where
  pub asked : (revolution_then v b t k rest).number ≡ 0 → Asked v b t k × (rest.number ≡ 0)
  asked e =
      let track = there v b t _ e in
      let last = not_refused (leb (revolutions b) k) 13 0 rest (ap (λ (x : Fault). x.number) (then_rest v b t _ track) ∙ e) in
      (record { opens = opens v b track.opened; present = (track.slot, track.entry); below = leb-false (revolutions b) k last.0 }, last.1)

  -- what comes after then decides
  pub asked_rest : Asked v b t k → revolution_then v b t k rest ≡ rest
  asked_rest a =
      there_then v b t k rest
      (record { track = record { opened = clears v b a.opens; slot = a.present.0; entry = a.present.1 }; below = a.below })
