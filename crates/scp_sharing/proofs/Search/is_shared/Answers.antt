-- Each part is the test that the definition makes.
use Rattle.scp_sharing.specs.Claims.{shared}
use Rattle.scp_sharing.proofs.ClaimLaws.{or_here, or_next}
use Rattle.scp_sharing.proofs.Search.is_shared.Goals as goal

pub returns-then-meets : goal.returns-then-meets
unfolding shared
returns-then-meets c = or_here _ c.meets.ensures c.if-meets.true

pub returns-else-meets : goal.returns-else-meets
unfolding shared
returns-else-meets c = or_next c.meets.ensures c.if-meets.false c.claims_hit.ensures
