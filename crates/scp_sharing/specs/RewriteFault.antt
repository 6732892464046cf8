-- What refuses a rewrite (R-17, R-18, W-7).
use Rattle.std.specs.Prelude.{ℕ, ◌*◌, List, Bool, ◌||◌, length, ltb}
use Rattle.refusals.specs.Refusals.{Fault, none, refusal, refuse_if}
use Rattle.flux.specs.Coding.{bad_flux_size}
use Rattle.scp_fields.specs.declared.Edition.{Edition}
use Rattle.scp_fields.specs.Header.{track_entry}
use Rattle.scp_tracks.specs.Tracks.{count_at}
use Rattle.scp_lookup.specs.Questions.{revolution_then}
use Rattle.scp_sharing.specs.Claims.{stand_at, shared}

-- R-17, W-1: n bytes for a revolution of `words` words are an odd number or too many, or more words than it has.
abbrev pub bad_words : ℕ → ℕ → Bool
bad_words words n = bad_flux_size n || ltb (2 * words) n

-- RO-6: 17, then 18, of revolution k of the track data header at e.
unfoldable pub words_then_shared : Edition → List ℕ → ℕ → ℕ → ℕ → ℕ → Fault
words_then_shared v b e t k n =
    refuse_if (bad_words (count_at b e k) n) (refusal 17 0) (refuse_if (shared v b (stand_at b e k) t k) (refusal 18 0) none)

-- W-7: what refuses the rewrite: 1 to 11, 19, 13, 14, 17, 18.
unfoldable pub rewrite_fault : Edition → List ℕ → ℕ → ℕ → List ℕ → Fault
rewrite_fault v b t k ws = revolution_then v b t k (words_then_shared v b (track_entry b t) t k (length ws))
