-- What is found has the answer's number and values.
use mathlib.Core.Path.{ap, ◌∙◌}
use Rattle.scp.specs.Answers.{of_revolution}
use Rattle.scp_direct.proofs.DirectLaws.{direct_revolution_is}
use Rattle.scp_direct.proofs.revolution.Goals as goal

pub returns : goal.returns
returns c = ap of_revolution c.find_revolution.ensures ∙ direct_revolution_is _ _ _ _
