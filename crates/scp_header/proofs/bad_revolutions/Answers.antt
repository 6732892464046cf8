-- What the definition says is computed from the header's two numbers. The answer stands here for the edits of the limit, which give it another.
use Rattle.scp_header.proofs.bad_revolutions.Goals as goal

pub returns : goal.returns
returns c = cc
