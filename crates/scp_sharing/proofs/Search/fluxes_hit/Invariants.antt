-- A flux hit from revolution j on is one of the whole track.
use Prim.Native.Nat.{ℕ, ◌-◌}
use mathlib.Core.Path.{◌≡◌}
use mathlib.Core.List.{List}
use mathlib.Core.Bool.{Bool}
use Rattle.refusals.specs.Search.{any_from}
use Rattle.scp_sharing.specs.Extents.{any_of}
use Rattle.scp_sharing.specs.Claims.{hit, flux_claim, flux_claims}
use Rattle.scp_sharing.specs.declared.Stand.{Stand}
use Rattle.scp_sharing.proofs.Search.fluxes_hit.Given as goal

abbrev pub flux_hit : List ℕ → Stand → ℕ → ℕ → ℕ → ℕ → ℕ → Bool
flux_hit b s t k u e j = any_of (hit s) (flux_claim b t k u e j)

abbrev pub invariant-loop-j : goal.invariant-loop-j
invariant-loop-j l =
    let s = l.self in
    any_from (flux_hit s.image.now s.stand s.track s.revolution l.t.number l.t.entry) l.j (l.n - l.j)
    ≡ any_of (hit s.stand) (flux_claims s.image.now s.track s.revolution l.t.number l.t.entry)
