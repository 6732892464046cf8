-- What one rewrite does, said without saying how (W-7 to W-10, S-8): which bytes it sets, when it is refused, and how revolutions read.
use Rattle.std.specs.Prelude.{◌≡◌, ℕ, ◌+◌, ◌-◌, ◌*◌, ◌/◌, ◌%◌, ◌<◌, true, false, ◌≢◌, ◌↔◌, List, length, take, drop}
use Rattle.octets.specs.Numbers.{byte_at}
use Rattle.refusals.specs.Refusals.{none, refusal, passes}
use Rattle.scp_fields.specs.declared.Edition.{Edition}
use Rattle.scp_fields.specs.Header.{checksum_at, revolutions, stored_sum, true_sum, track_entry}
use Rattle.scp_tracks.specs.Tracks.{duration_at, count_at, flux_at}
use Rattle.scp_open.specs.Opening.{open_fault}
use Rattle.scp_lookup.specs.Questions.{revolution_question}
use Rattle.scp_sharing.specs.Extents.{extent, In}
use Rattle.scp_sharing.specs.RewriteFault.{bad_words, rewrite_fault}
use Rattle.scp_rewrite.specs.Rewriting.{after_rewrite}
use Rattle.scp_sharing.specs.Sharing.{Present, InNumbers, ClaimedTwice}

-- ---- how a revolution reads

-- S-8: its duration, its count of words, the file offset of its flux and its words.
pub record Reading : Type 0 where
  pub duration : ℕ
  pub count : ℕ
  pub offset : ℕ
  pub words : List ℕ

-- S-8: how revolution k of track t reads in the bytes b.
unfoldable pub reading : List ℕ → ℕ → ℕ → Reading
reading b t k =
    record {
      duration = duration_at b (track_entry b t) k;
      count = count_at b (track_entry b t) k;
      offset = flux_at b (track_entry b t) k;
      words = take (2 * count_at b (track_entry b t) k) (drop (flux_at b (track_entry b t) k) b);
    }

-- S-8: as a rewrite put it: its duration, count and words are the rewrite's.
abbrev pub put : Reading → ℕ → List ℕ → Reading
put r d ws = record { duration = d; count = length ws / 2; offset = r.offset; words = ws }

-- ---- the checksum

-- S-9: how far the stored checksum is from the true sum, modulo 2^32; 0 is sound.
unfoldable pub distance : List ℕ → ℕ
distance b = (stored_sum b + 4_294_967_296 - true_sum b) % 4_294_967_296

-- ---- the rewrite

-- W-8, W-9: from b an accepted rewrite of revolution k of track t makes q: duration, count and the first 2n bytes at its flux's offset are the new
-- ones, and all other bytes stay but the checksum's four.
pub record Rewrites (b q : List ℕ) (t k d : ℕ) (ws : List ℕ) : Type 0 where
  pub size : length q ≡ length b
  pub duration : duration_at q (track_entry b t) k ≡ d
  pub count : count_at q (track_entry b t) k ≡ length ws / 2
  pub words : take (length ws) (drop (flux_at b (track_entry b t) k) q) ≡ ws
  pub rest :
      (i : ℕ) → (InNumbers b t k i → ⊥) → (In i (extent (flux_at b (track_entry b t) k) (length ws)) → ⊥) → (In i (extent checksum_at 4) → ⊥)
      → byte_at q i ≡ byte_at b i

-- S-8, V-6: by the edition v that an accepted rewrite names, the image that it makes of b opens, the revolution reads as put, and every other
-- as before.
pub record ReadsAfter (v : Edition) (b q : List ℕ) (t k d : ℕ) (ws : List ℕ) : Type 0 where
  pub opens : open_fault v q ≡ none
  pub own : reading q t k ≡ put (reading b t k) d ws
  pub others : (u j : ℕ) → Present v b u → j < revolutions b → ((u ≡ t) × (j ≡ k) → ⊥) → reading q u j ≡ reading b u j

-- W-7, V-6: a rewrite is refused by what refuses the question for its revolution, else by its words, else as shared, and by nothing more, all by
-- the edition v that it names; a refused one leaves the bytes, and an accepted one sets its own and no others.
pub record RewriteDoes (v : Edition) (b : List ℕ) (t k d : ℕ) (ws : List ℕ) : Type 0 where
  -- 1 to 11 and 19, then 13, 14: with the number and position of the question
  pub earlier : revolution_question v b t k ≢ none → rewrite_fault v b t k ws ≡ revolution_question v b t k
  -- then 17, if the words are bad
  pub words :
      revolution_question v b t k ≡ none → bad_words (count_at b (track_entry b t) k) (length ws) ≡ true
      → rewrite_fault v b t k ws ≡ refusal 17 0
  -- then 18, exactly if a byte is claimed twice
  pub shared :
      revolution_question v b t k ≡ none → bad_words (count_at b (track_entry b t) k) (length ws) ≡ false
      → (rewrite_fault v b t k ws ≡ refusal 18 0) ↔ ClaimedTwice v b t k
  -- accepted if none of these refuses it; 12 is not among them
  pub accepts :
      revolution_question v b t k ≡ none → bad_words (count_at b (track_entry b t) k) (length ws) ≡ false → (ClaimedTwice v b t k → ⊥)
      → rewrite_fault v b t k ws ≡ none
  pub refused : passes (rewrite_fault v b t k ws) ≡ false → after_rewrite v b t k d ws ≡ b
  pub accepted : passes (rewrite_fault v b t k ws) ≡ true → Rewrites b (after_rewrite v b t k d ws) t k d ws
  -- and then its own revolution reads as put, and every other as before
  pub reads : passes (rewrite_fault v b t k ws) ≡ true → ReadsAfter v b (after_rewrite v b t k d ws) t k d ws

-- W-7: every rewrite does so, whatever edition it names, whose duration is a 32-bit number.
abbrev pub EveryRewrite : Type 0
EveryRewrite = (v : Edition) (b : List ℕ) (t k d : ℕ) (ws : List ℕ) → d < 4_294_967_296 → RewriteDoes v b t k d ws
