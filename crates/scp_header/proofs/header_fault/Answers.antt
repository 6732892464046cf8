-- Each return meets the tests before it, in the definition's order.
use mathlib.Core.Path.{refl, sym, ap, ◌∙◌}
use Rattle.refusals.specs.Refusals.{in_table}
use Rattle.refusals.proofs.Chain.{refuse_here, refuse_next}
use Rattle.scp_header.specs.HeaderFault.{header_fault}
use Rattle.scp_header.proofs.header_fault.Goals as goal

pub bad_sign-requires : goal.bad_sign-requires
bad_sign-requires c = c.bad_size.ensures.sized c.if-bad_size.false

pub returns-then-bad_size : goal.returns-then-bad_size
unfolding header_fault
returns-then-bad_size c =
    (refuse_here _ _ _ (sym c.bad_size.ensures.value ∙ c.if-bad_size.true) (ap in_table c.at.ensures))

pub returns-then-bad_sign : goal.returns-then-bad_sign
unfolding header_fault
returns-then-bad_sign c =
    (refuse_next _ _ _ (sym c.bad_size.ensures.value ∙ c.if-bad_size.false)
    (refuse_here _ _ _ (sym c.bad_sign.ensures ∙ c.if-bad_sign.true) (ap in_table c.at-then-bad_sign.ensures)))

pub returns-then-bad_width : goal.returns-then-bad_width
unfolding header_fault
returns-then-bad_width c =
    (refuse_next _ _ _ (sym c.bad_size.ensures.value ∙ c.if-bad_size.false)
    (refuse_next _ _ _ (sym c.bad_sign.ensures ∙ c.if-bad_sign.false)
    (refuse_here _ _ _ (sym c.bad_width.ensures ∙ c.if-bad_width.true) (ap in_table c.at-then-bad_width.ensures))))

pub returns-then-bad_revolutions : goal.returns-then-bad_revolutions
unfolding header_fault
returns-then-bad_revolutions c =
    (refuse_next _ _ _ (sym c.bad_size.ensures.value ∙ c.if-bad_size.false)
    (refuse_next _ _ _ (sym c.bad_sign.ensures ∙ c.if-bad_sign.false)
    (refuse_next _ _ _ (sym c.bad_width.ensures ∙ c.if-bad_width.false)
    (refuse_here _ _ _ (sym c.bad_revolutions.ensures ∙ c.if-bad_revolutions.true) (ap in_table c.at-then-bad_revolutions.ensures)))))

pub returns-then-bad_span : goal.returns-then-bad_span
unfolding header_fault
returns-then-bad_span c =
    (refuse_next _ _ _ (sym c.bad_size.ensures.value ∙ c.if-bad_size.false)
    (refuse_next _ _ _ (sym c.bad_sign.ensures ∙ c.if-bad_sign.false)
    (refuse_next _ _ _ (sym c.bad_width.ensures ∙ c.if-bad_width.false)
    (refuse_next _ _ _ (sym c.bad_revolutions.ensures ∙ c.if-bad_revolutions.false)
    (refuse_here _ _ _ (sym c.bad_span.ensures ∙ c.if-bad_span.true) (ap in_table c.at-then-bad_span.ensures))))))

pub returns-then-bad_heads : goal.returns-then-bad_heads
unfolding header_fault
returns-then-bad_heads c =
    (refuse_next _ _ _ (sym c.bad_size.ensures.value ∙ c.if-bad_size.false)
    (refuse_next _ _ _ (sym c.bad_sign.ensures ∙ c.if-bad_sign.false)
    (refuse_next _ _ _ (sym c.bad_width.ensures ∙ c.if-bad_width.false)
    (refuse_next _ _ _ (sym c.bad_revolutions.ensures ∙ c.if-bad_revolutions.false)
    (refuse_next _ _ _ (sym c.bad_span.ensures ∙ c.if-bad_span.false)
    (refuse_here _ _ _ (sym c.bad_heads.ensures ∙ c.if-bad_heads.true) (ap in_table c.at-then-bad_heads.ensures)))))))

pub returns : goal.returns
unfolding header_fault
returns c =
    (refuse_next _ _ _ (sym c.bad_size.ensures.value ∙ c.if-bad_size.false)
    (refuse_next _ _ _ (sym c.bad_sign.ensures ∙ c.if-bad_sign.false)
    (refuse_next _ _ _ (sym c.bad_width.ensures ∙ c.if-bad_width.false)
    (refuse_next _ _ _ (sym c.bad_revolutions.ensures ∙ c.if-bad_revolutions.false)
    (refuse_next _ _ _ (sym c.bad_span.ensures ∙ c.if-bad_span.false)
    (refuse_next _ _ _ (sym c.bad_heads.ensures ∙ c.if-bad_heads.false)
    refl))))))
