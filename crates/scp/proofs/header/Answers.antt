-- The header of an image that opens is the one read.
use mathlib.Core.Path.{ap}
use Rattle.std.proofs.lemmas.Result.{err_from_is_err_and}
use Rattle.scp_open.specs.declared.Header.{Header}
use Rattle.scp_open.specs.Opening.{header_of}
use Rattle.scp_lookup.proofs.Asking.{opened_err, opened_ok, opened_header}
use Rattle.scp.specs.Answers.{numbers, header_numbers, header_answer}
use Rattle.scp.proofs.Answering.{unless_refused, unless_passes}
use Rattle.scp.proofs.header.Goals as goal

pub returns-in_err-opened : goal.returns-in_err-opened
unfolding header_answer
returns-in_err-opened c =
    let told = opened_err _ _ c.in_err-opened.ensures in
    let p = err_from_is_err_and c.from_residual.result c.from_residual.ensures.1 in
    rw (p.1, p.2) (unless_refused _ _ told.0 told.1)

pub returns : goal.returns
unfolding header_answer header_of
returns c =
    unless_passes _ _ (opened_ok _ _ c.in_ok-opened.ensures).0
    (ap (λ (h : Header). numbers (header_numbers h)) (opened_header _ _ c.in_ok-opened.ensures))
