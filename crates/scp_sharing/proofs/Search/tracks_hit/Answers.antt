-- A track hit from track u on is one of all.
use Prim.Native.Nat.{ℕ}
use mathlib.Core.Path.{sym, ap, ◌∙◌}
use Rattle.refusals.proofs.Loops.{any_here, any_next, any_end}
use Rattle.scp_sharing.specs.Extents.{any_of}
use Rattle.scp_sharing.specs.Claims.{hit, track_claim, track_claim_at}
use Rattle.scp_sharing.proofs.ClaimLaws.{any_start}
use Rattle.scp_sharing.proofs.Search.tracks_hit.Goals as goal

pub loop-u-init : goal.loop-u-init
loop-u-init c =
    let s = c.args.self.now in
    any_start (hit s.stand) (track_claim_at s.image.now s.track s.revolution) c.slots-n.ensures.0

pub returns-then-track_hit : goal.returns-then-track_hit
returns-then-track_hit c =
    let s = c.args.self.now in
    let at_entry = ap (λ (e : ℕ). any_of (hit s.stand) (track_claim s.image.now s.track s.revolution c.loop-u.u e)) c.track_entry-entry.ensures in
    any_here _ c.loop-u.invariant c.loop-u-test.true (sym (c.track_hit.ensures ∙ at_entry) ∙ c.if-track_hit.true)

pub loop-u-preserved : goal.loop-u-preserved
loop-u-preserved c =
    let s = c.args.self.now in
    let at_entry = ap (λ (e : ℕ). any_of (hit s.stand) (track_claim s.image.now s.track s.revolution c.loop-u.u e)) c.track_entry-entry.ensures in
    any_next _ c.loop-u.invariant c.loop-u-test.true (sym (c.track_hit.ensures ∙ at_entry) ∙ c.if-track_hit.false)

pub returns : goal.returns
returns c = any_end _ c.loop-u.invariant c.loop-u-test.false
