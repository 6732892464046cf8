-- The flag decides; the footer starts where the definition says.
use mathlib.Core.Path.{refl, sym, ap, ◌∙◌}
use Rattle.scp_sharing.specs.Claims.{hit}
use Rattle.scp_sharing.proofs.ClaimLaws.{extent_is, or_here, or_next, footer_none, footer_parts}
use Rattle.scp_sharing.proofs.Search.footer_hit.Goals as goal

pub returns-then-hits : goal.returns-then-hits
returns-then-hits c =
    let s = c.args.self.now.stand in
    or_here _ (c.hits.ensures ∙ ap (hit s) (extent_is c.footer_at.ensures refl)) c.if-hits.true
    ∙ sym (footer_parts (hit s) _ _ (sym c.has_footer.ensures ∙ c.if-has_footer.true))

pub returns-else-hits : goal.returns-else-hits
returns-else-hits c =
    let s = c.args.self.now.stand in
    or_next (c.hits.ensures ∙ ap (hit s) (extent_is c.footer_at.ensures refl)) c.if-hits.false c.strings_hit.ensures
    ∙ sym (footer_parts (hit s) _ _ (sym c.has_footer.ensures ∙ c.if-has_footer.true))

pub returns : goal.returns
returns c = sym (footer_none _ _ _ (sym c.has_footer.ensures ∙ c.if-has_footer.false))
