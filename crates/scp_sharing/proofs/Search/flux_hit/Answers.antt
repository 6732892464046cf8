-- Flux behind or before all that the rewrite stands on is not hit; its own flux is no claim; another's is hit as the definition says.
use mathlib.Core.Path.{sym, ap, ◌∙◌}
use native.Mathlib.Omega.{arith}
use borrow.Author.Rules.{rules}
use Rattle.scp_sharing.specs.Claims.{hit}
use Rattle.scp_sharing.proofs.Meeting.{hit_behind, hit_before}
use Rattle.scp_sharing.proofs.ClaimLaws.{flux_own, flux_other, flux_missed}
use Rattle.scp_sharing.proofs.Search.flux_hit.Goals as goal

pub returns-then-self-x : goal.returns-then-self-x
returns-then-self-x c =
    let s = c.args.self.now in
    let extent = c.flux_extent-x.ensures in
    flux_missed _ _ _ _ _ _ _ extent.0 (hit_behind s.stand _ s.spans (search rules) c.if-self-x.true)

pub returns-then-end-self : goal.returns-then-end-self
returns-then-end-self c =
    let s = c.args.self.now in
    let extent = c.flux_extent-x.ensures in
    let end = c.end.ensures in
    let before = c.if-end-self.true in
    flux_missed _ _ _ _ _ _ _ extent.0 (hit_before s.stand _ s.spans (omega (arith, extent.1, end, before)))

pub returns-then-t-self : goal.returns-then-t-self
returns-then-t-self c = sym (flux_own _ _ _ _ _ _ _ c.if-t-self.true)

pub returns : goal.returns
returns c =
    let s = c.args.self.now.stand in
    c.hits.ensures ∙ ap (hit s) c.flux_extent-x.ensures.0 ∙ sym (flux_other (hit s) _ _ _ _ _ _ c.if-t-self.false)
