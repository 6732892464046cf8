-- The values are copied to the start of `out`, or they do not fit.
use mathlib.Core.Path.{sym, ap, ◌∙◌}
use Rattle.boundary.specs.Boundary.{refusal_code}
use Rattle.boundary.proofs.GivenValues.{given, not_given}
use Rattle.boundary.proofs.give.Goals as goal

pub returns-then-copy : goal.returns-then-copy
returns-then-copy g c =
    let a = c.args in
    let all = given a.out.now a.values.now c.copy.ensures.out_after (sym c.if-copy.true ∙ c.copy.ensures.value) in
    record { value = all.0; out_after = all.1 }

pub returns-else-copy : goal.returns-else-copy
returns-else-copy g c =
    let a = c.args in
    let all = not_given a.out.now a.values.now c.copy.ensures.out_after (sym c.if-copy.false ∙ c.copy.ensures.value) in
    record { value = c.code.ensures ∙ ap refusal_code c.at.ensures ∙ all.0; out_after = all.1 }
