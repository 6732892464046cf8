-- Each part is a part of the list.
use Prim.Native.Nat.{ℕ}
use mathlib.Core.Path.{sym, ap, ◌∙◌}
use Rattle.scp_sharing.specs.Extents.{extent}
use Rattle.scp_sharing.specs.Claims.{hit}
use Rattle.scp_sharing.proofs.ClaimLaws.{or_here, or_next, claims_parts}
use Rattle.scp_sharing.proofs.Search.claims_hit.Goals as goal

pub returns-then-hits : goal.returns-then-hits
returns-then-hits c =
    let s = c.args.self.now.stand in
    let front = c.hits.ensures ∙ ap (λ (n : ℕ). hit s (extent 0 n)) c.table_end.ensures.0 in
    or_here _ front c.if-hits.true ∙ sym (claims_parts _ _ _ _ _)

pub returns-then-tracks_hit : goal.returns-then-tracks_hit
returns-then-tracks_hit c =
    let s = c.args.self.now.stand in
    let front = c.hits.ensures ∙ ap (λ (n : ℕ). hit s (extent 0 n)) c.table_end.ensures.0 in
    or_next front c.if-hits.false (or_here _ c.tracks_hit.ensures c.if-tracks_hit.true) ∙ sym (claims_parts _ _ _ _ _)

pub returns-else-tracks_hit : goal.returns-else-tracks_hit
returns-else-tracks_hit c =
    let s = c.args.self.now.stand in
    let front = c.hits.ensures ∙ ap (λ (n : ℕ). hit s (extent 0 n)) c.table_end.ensures.0 in
    or_next front c.if-hits.false (or_next c.tracks_hit.ensures c.if-tracks_hit.false c.footer_hit.ensures) ∙ sym (claims_parts _ _ _ _ _)
