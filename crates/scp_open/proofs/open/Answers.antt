-- What refuses is the answer; where nothing does, header and table are read.
use Rattle.std.proofs.Common.{Ok, Err}
use Rattle.std.proofs.lemmas.Result.{err_from_is_err_and}
use Rattle.refusals.proofs.Passing.{unless_err, unless_ok}
use Rattle.scp_open.specs.Opening.{open_fault, opened_image, opened_of}
use Rattle.scp_open.proofs.OpenLaws.{whole_fault}
use Rattle.scp_open.proofs.open.Goals as goal

pub returns-in_err-first_fault : goal.returns-in_err-first_fault
unfolding opened_of
returns-in_err-first_fault c =
    let a = c.args in
    let v = a.edition in
    let b = a.image.now in
    let p = err_from_is_err_and c.from_residual.result c.from_residual.ensures.1 in
    rw (p.1, p.2) (unless_err (open_fault v b) (Ok (opened_image v b)) Err _ (whole_fault v b c.slots.ensures.0 c.in_err-first_fault.ensures))

pub returns : goal.returns
unfolding opened_of
returns c =
    let a = c.args in
    let v = a.edition in
    let b = a.image.now in
    unless_ok (open_fault v b) (Ok (opened_image v b)) Err (whole_fault v b c.slots.ensures.0 c.in_ok-first_fault.ensures) cc
