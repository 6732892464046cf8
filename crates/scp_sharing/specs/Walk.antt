-- What the walk over the claims starts from.
-- No rule stands here.
use Rattle.std.specs.Prelude.{ℕ, ◌+◌, ◌<◌, ◌≤◌, ◌≢◌, List, length}
use Rattle.scp_fields.specs.declared.Edition.{Edition}
use Rattle.scp_fields.specs.Editions.{slots}
use Rattle.scp_fields.specs.Header.{track_entry}
use Rattle.scp_tracks.specs.Tracks.{header_size}
use Rattle.scp_sharing.specs.declared.Stand.{Stand}

-- No byte that a rewrite stands on lies before `from`, and none at or behind `to`, unless that is the largest number of 64 bits.
pub record Spans (s : Stand) (from to : ℕ) : Type 0 where
  pub numbers_from : from ≤ s.numbers.start
  pub flux_from : from ≤ s.flux.start
  pub ends : to < 18_446_744_073_709_551_615 → (s.numbers.start + s.numbers.size ≤ to) × (s.flux.start + s.flux.size ≤ to)

-- The track header at e lies inside the image.
abbrev pub Inside : List ℕ → ℕ → Type 0
Inside b e = e + header_size b ≤ length b

-- The track headers of all tracks that are there lie inside the image.
abbrev pub HeadersInside : Edition → List ℕ → Type 0
HeadersInside v b = (u : ℕ) → u < slots v → track_entry b u ≢ 0 → Inside b (track_entry b u)
