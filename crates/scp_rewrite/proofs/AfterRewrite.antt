-- What one rewrite does, accepted or refused: the tests of its chain give what refuses it, and the frame of an accepted one gives what it
-- sets and what it keeps.
use Rattle.std.proofs.Common.{◌≡◌, ℕ, ◌<◌, ◌≤◌, Bool, true, false, cond, ◌&&◌, eqb, ◌≢◌, ◌⊎◌, ◌↔◌, List, length, refl, ap, ◌∙◌, inl, inr, arith}
use Rattle.octets.specs.Numbers.{byte_at, Octets}
use Rattle.refusals.specs.Refusals.{Fault, none, refusal, passes, refuse_if}
use Rattle.scp_fields.specs.declared.Edition.{Edition}
use Rattle.scp_fields.specs.Editions.{slots}
use Rattle.scp_fields.specs.Header.{checksum_at, revolutions, end_track, track_entry}
use Rattle.scp_tracks.specs.Tracks.{count_at, flux_at}
use Rattle.scp_open.specs.Validity.{Opens}
use Rattle.scp_open.proofs.Opens.{opens_exactly}
use Rattle.scp_lookup.specs.Questions.{revolution_question}
use Rattle.scp_sharing.specs.Claims.{stand_at, shared}
use Rattle.scp_sharing.specs.Extents.{extent, In}
use Rattle.scp_sharing.specs.Sharing.{InNumbers, ClaimedTwice}
use Rattle.scp_sharing.specs.RewriteFault.{bad_words, words_then_shared, rewrite_fault}
use Rattle.scp_rewrite.specs.Rewriting.{rewritten, after_rewrite}
use Rattle.scp_rewrite.specs.OneRewrite.{reading, put, Rewrites, ReadsAfter, EveryRewrite}
use Rattle.scp_sharing.proofs.SharedBytes.{shared_exactly}
use Rattle.scp_sharing.proofs.Asked.{question_first, asked, asked_rest}
use Rattle.scp_sharing.proofs.Accepted.{Accepted, accepted, shared_refused}
use Rattle.scp_rewrite.proofs.Frame.{octets_kept, rewritten_size, rewritten_duration, rewritten_count, rewritten_words, rewritten_rest, sum_moved, sum_stays}
use Rattle.scp_rewrite.proofs.Keeping.{same_read_write, same_revolutions, same_end_track, same_entry, opens_kept, reading_other, reading_own, reading_kept}
use Rattle.scp_rewrite.proofs.Checksums.{distance_kept}
use Rattle.scp_rewrite.proofs.Kept.{Kept, still}

-- ---- what refuses it

module _ (v : Edition) (b : List ℕ) (t k : ℕ) (ws : List ℕ) (q : revolution_question v b t k ≡ none) where
  -- 17 and 18 then decide
  words_next : rewrite_fault v b t k ws ≡ words_then_shared v b (track_entry b t) t k (length ws)
  unfolding rewrite_fault
  words_next = asked_rest v b t k _ (asked v b t k none (ap (λ (f : Fault). f.number) q)).0

  words_refused_lem : bad_words (count_at b (track_entry b t) k) (length ws) ≡ true → rewrite_fault v b t k ws ≡ refusal 17 0
  unfolding words_then_shared refuse_if
  words_refused_lem w = words_next ∙ simp w

  unshared_accepted : bad_words (count_at b (track_entry b t) k) (length ws) ≡ false → (ClaimedTwice v b t k → ⊥) → rewrite_fault v b t k ws ≡ none
  unfolding words_then_shared refuse_if
  unshared_accepted w n =
      let a = (asked v b t k none (ap (λ (f : Fault). f.number) q)).0 in
      words_next ∙ simp w (by (shared v b (stand_at b (track_entry b t) k) t k) (shared_exactly v b t k a.present a.below))
    where
      by : (x : Bool) → (x ≡ true) ↔ ClaimedTwice v b t k → refuse_if x (refusal 18 0) none ≡ none
      by true i = absurd (n (i.0 refl))
      by false i = refl

-- ---- what an accepted one sets and keeps

module _ (v : Edition) (b : List ℕ) (t k d : ℕ) (ws : List ℕ) (small : d < 4_294_967_296) where
  module _ (a : Accepted v b t k ws) where
    rewrites : Rewrites b (rewritten b t k d ws) t k d ws
    rewrites =
        record {
          size = rewritten_size v b t k d ws a;
          duration = rewritten_duration v b t k d ws a small;
          count = rewritten_count v b t k d ws a;
          words = rewritten_words v b t k d ws a;
          rest = rewritten_rest v b t k d ws a;
        }

    accepted_keeps : Octets ws → Kept b (rewritten b t k d ws)
    accepted_keeps g =
        let q = rewritten b t k d ws in
        record {
          size = rewrites.size;
          mark = same_read_write v b q t k d ws a rewrites;
          turns = same_revolutions v b q t k d ws a rewrites;
          last = same_end_track v b q t k d ws a rewrites;
          entries = λ u l. same_entry v b q t k d ws a rewrites u (let end = a.asks.opens.span_end in omega arith);
          octets = λ h. octets_kept b t k d ws h g;
          read_only = λ e. distance_kept b q (sum_moved v b t k d ws a e);
          read_written = sum_stays v b t k d ws a;
        }

    reads_after : ReadsAfter v b (rewritten b t k d ws) t k d ws
    reads_after =
        let q = rewritten b t k d ws in
        record {
          opens = (opens_exactly v q).1 (opens_kept v b q t k d ws a rewrites);
          own = reading_own v b q t k d ws a rewrites;
          others = reading_other v b q t k d ws a rewrites;
        }

  -- ---- what a rewrite does, by whether it is accepted

  -- what holds of the bytes that an accepted one makes, and of those that a refused one leaves, holds after it
  either_left : (P : List ℕ → Type 0) → (passes (rewrite_fault v b t k ws) ≡ true → P (rewritten b t k d ws))
      → (passes (rewrite_fault v b t k ws) ≡ false → P b) → P (after_rewrite v b t k d ws)
  unfolding after_rewrite
  either_left P made left = by (passes (rewrite_fault v b t k ws)) refl
    where
      by : (x : Bool) → passes (rewrite_fault v b t k ws) ≡ x → P (cond x (rewritten b t k d ws) b)
      by true e = made e
      by false e = left e

  pub rewrite_stays : (Opens v b → ⊥) → after_rewrite v b t k d ws ≡ b
  rewrite_stays n = either_left (λ q. q ≡ b) (λ e. absurd (n (accepted v b t k ws e).asks.opens)) (λ e. refl)

  pub rewrite_opens : Opens v b → Opens v (after_rewrite v b t k d ws)
  rewrite_opens o =
      either_left (Opens v) (λ e. let a = accepted v b t k ws e in opens_kept v b (rewritten b t k d ws) t k d ws a (rewrites a)) (λ e. o)

  pub rewrite_keeps : Octets ws → Kept b (after_rewrite v b t k d ws)
  rewrite_keeps g = either_left (Kept b) (λ e. accepted_keeps (accepted v b t k ws e) g) (λ e. still b)

  -- a byte that it does not set stays, the checksum's apart
  pub rewrite_rest : (i : ℕ)
      → ((passes (rewrite_fault v b t k ws) ≡ true) × (InNumbers b t k i ⊎ In i (extent (flux_at b (track_entry b t) k) (length ws))) → ⊥)
      → (In i (extent checksum_at 4) → ⊥) → byte_at (after_rewrite v b t k d ws) i ≡ byte_at b i
  rewrite_rest i n o =
      either_left (λ q. byte_at q i ≡ byte_at b i)
      (λ e. (rewrites (accepted v b t k ws e)).rest i (λ p. n (e, inl p)) (λ p. n (e, inr p)) o)
      (λ e. refl)

  -- a revolution of a track that the table has up to the end track, whatever edition looks for it
  pub rewrite_reads : (u j : ℕ) → u ≤ end_track b → track_entry b u ≢ 0 → j < revolutions b
      → reading (after_rewrite v b t k d ws) u j
      ≡ cond (passes (rewrite_fault v b t k ws) && (eqb t u && eqb k j)) (put (reading b u j) d ws) (reading b u j)
  unfolding after_rewrite
  rewrite_reads u j i n l = by (passes (rewrite_fault v b t k ws)) refl
    where
      by : (x : Bool) → passes (rewrite_fault v b t k ws) ≡ x
          → reading (cond x (rewritten b t k d ws) b) u j ≡ cond (x && (eqb t u && eqb k j)) (put (reading b u j) d ws) (reading b u j)
      by true e =
          let a = accepted v b t k ws e in
          let end = a.asks.opens.span_end in
          let slot : u < slots v = omega arith in
          reading_kept v b (rewritten b t k d ws) t k d ws a (rewrites a) u j (slot, n) l
      by false e = refl

pub every_rewrite : EveryRewrite
unfolding rewrite_fault after_rewrite
every_rewrite v b t k d ws small =
    record {
      earlier = question_first v b t k _;
      words = words_refused_lem v b t k ws;
      shared = shared_refused v b t k ws;
      accepts = unshared_accepted v b t k ws;
      refused = λ e. rw e;
      accepted = λ e. rw e (rewrites v b t k d ws small (accepted v b t k ws e));
      reads = λ e. rw e (reads_after v b t k d ws small (accepted v b t k ws e));
    }
