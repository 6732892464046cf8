-- A string hit from string j on is one of all.
use Prim.Native.Nat.{ℕ}
use mathlib.Core.Path.{refl, sym, ap, ◌∙◌}
use Rattle.refusals.proofs.Loops.{any_here, any_next, any_end}
use Rattle.scp_sharing.specs.Extents.{any_of}
use Rattle.scp_sharing.specs.Claims.{hit, string_claim, string_claim_at}
use Rattle.scp_sharing.proofs.ClaimLaws.{any_start}
use Rattle.scp_sharing.proofs.Search.strings_hit.Goals as goal

pub loop-j-init : goal.loop-j-init
loop-j-init c = let s = c.args.self.now in any_start (hit s.stand) (string_claim_at s.image.now) refl

pub returns-then-string_hit : goal.returns-then-string_hit
returns-then-string_hit c =
    let s = c.args.self.now in
    let at_offset = ap (λ (o : ℕ). any_of (hit s.stand) (string_claim s.image.now o)) c.string_entry-o.ensures in
    any_here _ c.loop-j.invariant c.loop-j-test.true (sym (c.string_hit.ensures ∙ at_offset) ∙ c.if-string_hit.true)

pub loop-j-preserved : goal.loop-j-preserved
loop-j-preserved c =
    let s = c.args.self.now in
    let at_offset = ap (λ (o : ℕ). any_of (hit s.stand) (string_claim s.image.now o)) c.string_entry-o.ensures in
    any_next _ c.loop-j.invariant c.loop-j-test.true (sym (c.string_hit.ensures ∙ at_offset) ∙ c.if-string_hit.false)

pub returns : goal.returns
returns c = any_end _ c.loop-j.invariant c.loop-j-test.false
