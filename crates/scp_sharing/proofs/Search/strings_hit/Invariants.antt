-- A string hit from string j on is one of all.
use Rattle.std.proofs.Common.{◌≡◌, ◌-◌}
use mathlib.Core.List.{List}
use Prim.Native.Nat.{ℕ}
use mathlib.Core.Bool.{Bool}
use Rattle.refusals.specs.Search.{any_from}
use Rattle.scp_fields.specs.Footer.{string_slots}
use Rattle.scp_sharing.specs.Extents.{any_of}
use Rattle.scp_sharing.specs.Claims.{hit, string_claim_at, string_claims}
use Rattle.scp_sharing.specs.declared.Stand.{Stand}
use Rattle.scp_sharing.proofs.Search.strings_hit.Given as goal

abbrev pub string_hit : List ℕ → Stand → ℕ → Bool
string_hit b s j = any_of (hit s) (string_claim_at b j)

abbrev pub invariant-loop-j : goal.invariant-loop-j
invariant-loop-j l =
    let s = l.self in
    any_from (string_hit s.image.now s.stand) l.j (string_slots - l.j) ≡ any_of (hit s.stand) (string_claims s.image.now)
