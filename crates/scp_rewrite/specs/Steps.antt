-- What the private functions ask of one another and leave behind.
-- No rule stands here.
use Rattle.std.specs.Prelude.{◌≡◌, ℕ, ◌+◌, ◌%◌, ◌≤◌, List, length, take, drop}
use Rattle.std.proofs.lemmas.List.Edits.{sets}
use Rattle.octets.specs.Sums.{byte_sum}
use Rattle.scp_fields.specs.Editions.{table_at}
use Rattle.scp_fields.specs.Header.{size_limit}
use Rattle.scp_tracks.specs.Tracks.{revolution_at, flux_at}

-- What patching starts from: the numbers of revolution k of the track header at e and n bytes of its flux lie behind the checksum and
-- inside an image of an admitted size.
pub record Patchable (b : List ℕ) (e k n : ℕ) : Type 0 where
  pub most : length b ≤ size_limit
  pub low : table_at ≤ revolution_at e k
  pub high : revolution_at e k + 8 ≤ length b
  pub flux_low : table_at ≤ flux_at b e k
  pub flux_high : flux_at b e k + n ≤ length b

-- A store of vs at i leaves q of p, and moves the sum s to r: what is put is added and what was there is taken away, modulo 2^32.
pub record Stored (p : List ℕ) (i : ℕ) (vs : List ℕ) (s : ℕ) (q : List ℕ) (r : ℕ) : Type 0 where
  pub bytes : q ≡ sets p i vs
  pub sum : (r + byte_sum (take (length vs) (drop i p))) % 4_294_967_296 ≡ (s + byte_sum vs) % 4_294_967_296
