-- The revolution is found or refused, and where it is found the part of the image is its flux.
use mathlib.Core.Path.{ap, ◌∙◌}
use Rattle.scp.specs.Answers.{bytes}
use Rattle.scp.proofs.Answering.{flux_found, flux_refused}
use Rattle.scp_rows.specs.Rows.{row_of}
use Rattle.scp_rows.proofs.flux_row.Goals as goal

pub returns-in-Ok : goal.returns-in-Ok
returns-in-Ok c =
    let a = c.args in
    let found = c.in-Ok.ensures in
    let d = c.in-Ok.d in
    c.bytes_row.ensures
    ∙ ap row_of (ap (bytes d.offset.0) c.flux_of.ensures.result_value ∙ flux_found a.edition a.image.now a.track a.revolution d found)

pub returns-in-Err : goal.returns-in-Err
returns-in-Err c =
    let a = c.args in
    let found = c.in-Err.ensures in
    c.refused_row.ensures ∙ ap row_of (flux_refused a.edition a.image.now a.track a.revolution _ found)
