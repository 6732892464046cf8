-- Its own header is the two extents around the 8 bytes, and another is whole.
use mathlib.Core.Path.{◌∙◌}
use Rattle.scp_sharing.proofs.ClaimLaws.{or_here, or_next, own_parts, other_hit}
use Rattle.scp_sharing.proofs.Search.header_hit.Goals as goal

pub returns-then-hits : goal.returns-then-hits
returns-then-hits c =
    or_here _ c.hits.ensures c.if-hits.true
    ∙ own_parts _ _ _ _ _ _ c.if-t-self.true c.record_at-at.ensures.0 c.header_size-size.ensures.0 c.between-before.ensures c.between-behind.ensures

pub returns-else-hits : goal.returns-else-hits
returns-else-hits c =
    or_next c.hits.ensures c.if-hits.false c.hits-else-hits.ensures
    ∙ own_parts _ _ _ _ _ _ c.if-t-self.true c.record_at-at.ensures.0 c.header_size-size.ensures.0 c.between-before.ensures c.between-behind.ensures

pub returns : goal.returns
returns c = other_hit _ _ _ _ _ _ c.if-t-self.false c.header_size-size.ensures.0 c.hits-2.ensures
