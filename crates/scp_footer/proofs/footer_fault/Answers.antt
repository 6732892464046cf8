-- Each return meets the tests before it, in the definition's order.
use mathlib.Core.Path.{refl, sym, ap, ◌∙◌}
use Rattle.scp_footer.specs.Footer.{footer_fault}
use Rattle.refusals.specs.Refusals.{in_table}
use Rattle.refusals.proofs.Chain.{refuse_here, refuse_next, turned_off, turned_on}
use Rattle.scp_footer.proofs.footer_fault.Goals as goal

pub returns-then-bad_footer : goal.returns-then-bad_footer
unfolding footer_fault
returns-then-bad_footer c = refuse_here _ _ _ (sym c.bad_footer.ensures ∙ c.if-bad_footer.true) (ap in_table c.at.ensures)

pub returns-then-has_footer : goal.returns-then-has_footer
unfolding footer_fault
returns-then-has_footer c =
    refuse_next _ _ _ (sym c.bad_footer.ensures ∙ c.if-bad_footer.false)
    (refuse_next _ _ _ (turned_off (sym c.has_footer.ensures ∙ c.if-has_footer.true)) c.strings_fault.ensures)

pub returns : goal.returns
unfolding footer_fault
returns c =
    refuse_next _ _ _ (sym c.bad_footer.ensures ∙ c.if-bad_footer.false)
    (refuse_here _ _ _ (turned_on (sym c.has_footer.ensures ∙ c.if-has_footer.false)) refl)
