-- What is found has the answer's number and values.
use mathlib.Core.Path.{ap, ◌∙◌}
use Rattle.scp.specs.Answers.{of_revolution}
use Rattle.scp.proofs.Answering.{answer_is}
use Rattle.scp.proofs.revolution.Goals as goal

pub returns : goal.returns
returns c = ap of_revolution c.find_revolution.ensures ∙ answer_is _ _ _ _
