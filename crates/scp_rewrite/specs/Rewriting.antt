-- Rewriting one revolution: the bytes that it leaves (W-8 to W-12).
use Rattle.std.specs.Prelude.{ℕ, ◌+◌, ◌-◌, ◌/◌, ◌%◌, cond, List, length}
use Rattle.std.proofs.lemmas.List.Edits.{sets}
use Rattle.octets.specs.Numbers.{le_bytes}
use Rattle.refusals.specs.Refusals.{passes}
use Rattle.scp_fields.specs.declared.Edition.{Edition}
use Rattle.scp_fields.specs.Header.{checksum_at, read_write, stored_sum, true_sum, track_entry}
use Rattle.scp_tracks.specs.Tracks.{revolution_at, flux_at}
use Rattle.scp_sharing.specs.RewriteFault.{rewrite_fault}

-- W-8, W-9: it sets the revolution's duration, its count to the number n of new words, and the first 2n bytes of its flux to those words.
unfoldable pub patched : List ℕ → ℕ → ℕ → ℕ → List ℕ → List ℕ
patched b e k d ws =
    sets (sets (sets b (flux_at b e k) ws) (revolution_at e k) (le_bytes 4 d)) (revolution_at e k + 4) (le_bytes 4 (length ws / 2))

-- W-11: a checksum moved from the true sum `old` to the true sum `new`, modulo 2^32.
abbrev pub moved : ℕ → ℕ → ℕ → ℕ
moved stored new old = (stored + new + (4_294_967_296 - old)) % 4_294_967_296

-- W-11: the stored checksum of b moved by the change from b to p.
abbrev pub moved_sum : List ℕ → List ℕ → ℕ
moved_sum b p = moved (stored_sum b) (true_sum p) (true_sum b)

-- W-11, W-12: the checksum is moved on a read-only image, and not on a read/write one; p is b with its revolution patched.
unfoldable pub summed : List ℕ → List ℕ → List ℕ
summed b p = cond (read_write b) p (sets p checksum_at (le_bytes 4 (moved_sum b p)))

-- W-8 to W-12: the image that an accepted rewrite leaves.
abbrev pub rewritten : List ℕ → ℕ → ℕ → ℕ → List ℕ → List ℕ
rewritten b t k d ws = summed b (patched b (track_entry b t) k d ws)

-- W-10: the image after the call; a refused rewrite leaves it.
unfoldable pub after_rewrite : Edition → List ℕ → ℕ → ℕ → ℕ → List ℕ → List ℕ
after_rewrite v b t k d ws = cond (passes (rewrite_fault v b t k ws)) (rewritten b t k d ws) b
