-- A track hit from track u on is one of all.
use Prim.Native.Nat.{ℕ, ◌-◌}
use mathlib.Core.Path.{◌≡◌}
use mathlib.Core.List.{List}
use mathlib.Core.Bool.{Bool}
use Rattle.refusals.specs.Search.{any_from}
use Rattle.scp_sharing.specs.Extents.{any_of}
use Rattle.scp_sharing.specs.Claims.{hit, track_claim_at, track_claims}
use Rattle.scp_sharing.specs.declared.Stand.{Stand}
use Rattle.scp_sharing.proofs.Search.tracks_hit.Given as goal

abbrev pub track_hit : List ℕ → Stand → ℕ → ℕ → ℕ → Bool
track_hit b s t k u = any_of (hit s) (track_claim_at b t k u)

abbrev pub invariant-loop-u : goal.invariant-loop-u
invariant-loop-u l =
    let s = l.self in
    any_from (track_hit s.image.now s.stand s.track s.revolution) l.u (l.n - l.u)
    ≡ any_of (hit s.stand) (track_claims s.edition s.image.now s.track s.revolution)
