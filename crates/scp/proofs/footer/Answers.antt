-- The footer of an image that opens is read where it is flagged.
use mathlib.Core.Path.{sym, ◌∙◌}
use native.Mathlib.Omega.{arith}
use Rattle.std.proofs.lemmas.Result.{err_from_is_err_and}
use Rattle.scp_lookup.proofs.Asking.{opened_err, opened_ok, open_least}
use Rattle.scp.specs.Answers.{footer_answer}
use Rattle.scp.proofs.Answering.{unless_refused, unless_passes}
use Rattle.scp.proofs.footer.Goals as goal

pub returns-in_err-open : goal.returns-in_err-open
unfolding footer_answer
returns-in_err-open c =
    let told = opened_err _ _ c.in_err-open.ensures in
    let p = err_from_is_err_and c.from_residual.result c.from_residual.ensures.1 in
    rw (p.1, p.2) (unless_refused _ _ told.0 told.1)

pub read_footer-requires : goal.read_footer-requires
read_footer-requires c =
    let least = open_least _ _ (opened_ok _ _ c.in_ok-open.ensures).0 in
    omega arith

pub returns-then-has_footer : goal.returns-then-has_footer
unfolding footer_answer
returns-then-has_footer c =
    unless_passes _ _ (opened_ok _ _ c.in_ok-open.ensures).0
    (c.read_footer.ensures ∙ sym (simp (sym c.has_footer.ensures ∙ c.if-has_footer.true)))

pub returns : goal.returns
unfolding footer_answer
returns c =
    unless_passes _ _ (opened_ok _ _ c.in_ok-open.ensures).0 (sym (simp (sym c.has_footer.ensures ∙ c.if-has_footer.false)))
