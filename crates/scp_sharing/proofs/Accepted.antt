-- What an accepted rewrite is known to hold: it is accepted where each test that could refuse it fails, and each failed test is a fact.
use Prim.Native.Nat.{ℕ, ◌*◌, ◌%◌, ◌≤◌}
use mathlib.Core.Path.{◌≡◌, refl, sym, ap, ◌∙◌}
use mathlib.Core.Logic.{◌↔◌, inl, inr}
use mathlib.Core.List.{List}
use mathlib.Core.Bool.{Bool, true, false, true≢false}
use native.Mathlib.Omega.{arith}
use lib.ListN.{length}
use lib.Dec.{eqb}
use borrow.Author.Tests.{ltb-false, eqb-true, eqb-false}
use Rattle.refusals.specs.Refusals.{Fault, none, refusal, passes, refuse_if}
use Rattle.refusals.proofs.Finding.{neither, not_refused}
use Rattle.flux.specs.Coding.{flux_limit, bad_flux_size}
use Rattle.scp_fields.specs.declared.Edition.{Edition}
use Rattle.scp_fields.specs.Header.{track_entry}
use Rattle.scp_tracks.specs.Tracks.{count_at, flux_at}
use Rattle.scp_lookup.specs.Questions.{revolution_question}
use Rattle.scp_sharing.specs.Extents.{extent, In}
use Rattle.scp_sharing.specs.Claims.{stand_at, shared}
use Rattle.scp_sharing.specs.RewriteFault.{bad_words, words_then_shared, rewrite_fault}
use Rattle.scp_sharing.specs.Sharing.{InNumbers, Claimed, ClaimedTwice, by_others}
use Rattle.scp_sharing.proofs.Asked.{Asked, asked, asked_rest}
use Rattle.scp_sharing.proofs.SharedBytes.{shared_exactly}

-- The words are even, few enough and no more than it has, and no byte is claimed twice.
pub record Accepted (v : Edition) (b : List ℕ) (t k : ℕ) (ws : List ℕ) : Type 0 where
  pub asks : Asked v b t k
  pub even : length ws % 2 ≡ 0
  pub small : length ws ≤ flux_limit
  pub room : length ws ≤ 2 * count_at b (track_entry b t) k
  pub unshared : ClaimedTwice v b t k → ⊥

module _ (v : Edition) (b : List ℕ) (t k : ℕ) (ws : List ℕ) where
  pub accepted : passes (rewrite_fault v b t k ws) ≡ true → Accepted v b t k ws
  unfolding rewrite_fault words_then_shared
  accepted e =
      let words = count_at b (track_entry b t) k in
      let stand = stand_at b (track_entry b t) k in
      let q = asked v b t k _ (eqb-true (rewrite_fault v b t k ws).number 0 e) in
      let few = not_refused (bad_words words (length ws)) 16 0 _ q.1 in
      let free = not_refused (shared v b stand t k) 17 0 none few.1 in
      let size = neither (bad_flux_size (length ws)) _ few.0 in
      let even = neither (eqb (length ws % 2) 1) _ size.0 in
      let odd = eqb-false (length ws % 2) 1 even.0 in
      record {
        asks = q.0;
        even = omega arith;
        small = ltb-false flux_limit (length ws) even.1;
        room = ltb-false (2 * words) (length ws) size.1;
        unshared = λ c. true≢false (sym ((shared_exactly v b t k q.0.present q.0.below).1 c) ∙ free.0);
      }

  -- one that nothing earlier refuses is refused as shared exactly if a byte is claimed twice
  pub shared_refused : revolution_question v b t k ≡ none → bad_words (count_at b (track_entry b t) k) (length ws) ≡ false
      → (rewrite_fault v b t k ws ≡ refusal 18 0) ↔ ClaimedTwice v b t k
  unfolding rewrite_fault words_then_shared refuse_if
  shared_refused q w =
      let a = (asked v b t k none (ap (λ (f : Fault). f.number) q)).0 in
      rw (asked_rest v b t k (words_then_shared v b (track_entry b t) t k (length ws)) a, w)
      (by (shared v b (stand_at b (track_entry b t) k) t k) (shared_exactly v b t k a.present a.below))
    where
      by : (x : Bool) → (x ≡ true) ↔ ClaimedTwice v b t k → (refuse_if x (refusal 18 0) none ≡ refusal 18 0) ↔ ClaimedTwice v b t k
      by true i = (λ e. i.0 refl, λ c. refl)
      by false i = (
        λ e. let z : ◌≡◌ {A = ℕ} 0 18 = ap (λ (f : Fault). f.number) e in absurd (omega arith),
        λ c. absurd (true≢false (sym (i.1 c))),
      )

-- A byte that others claim is none that the rewrite sets, the checksum apart.
pub unset : {v : Edition} {b : List ℕ} {t k : ℕ} {ws : List ℕ} → Accepted v b t k ws → (i : ℕ) → Claimed v b t k i
    → (InNumbers b t k i → ⊥) × (In i (extent (flux_at b (track_entry b t) k) (length ws)) → ⊥)
unset a i c = (λ h. a.unshared (by_others i (inl h) c), λ h. let r = a.room in a.unshared (by_others i (inr (omega arith)) c))
