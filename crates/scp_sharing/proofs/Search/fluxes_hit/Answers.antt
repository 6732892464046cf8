-- A flux hit from revolution j on is one of the whole track.
use mathlib.Core.Path.{sym, ◌∙◌}
use Rattle.refusals.proofs.Loops.{any_here, any_next, any_end}
use Rattle.scp_sharing.specs.Claims.{hit, flux_claim}
use Rattle.scp_sharing.proofs.ClaimLaws.{any_start}
use Rattle.scp_sharing.proofs.Search.fluxes_hit.Goals as goal

pub loop-j-init : goal.loop-j-init
loop-j-init c =
    let s = c.args.self.now in
    let t = c.args.t in
    any_start (hit s.stand) (flux_claim s.image.now s.track s.revolution t.number t.entry) c.revolutions-n.ensures.0

pub returns-then-flux_hit : goal.returns-then-flux_hit
returns-then-flux_hit c =
    any_here _ c.loop-j.invariant c.loop-j-test.true (sym c.flux_hit.ensures ∙ c.if-flux_hit.true)

pub loop-j-preserved : goal.loop-j-preserved
loop-j-preserved c =
    any_next _ c.loop-j.invariant c.loop-j-test.true (sym c.flux_hit.ensures ∙ c.if-flux_hit.false)

pub returns : goal.returns
returns c = any_end _ c.loop-j.invariant c.loop-j-test.false
