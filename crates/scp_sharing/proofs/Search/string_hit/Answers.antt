-- No offset, nothing hit; else the extent is the string with its length and its zero byte.
use Prim.Native.Nat.{ℕ, ◌+◌}
use mathlib.Core.Path.{sym, ap, ◌∙◌}
use Rattle.scp_sharing.specs.Extents.{extent}
use Rattle.scp_sharing.specs.Claims.{hit}
use Rattle.scp_sharing.proofs.ClaimLaws.{string_none, string_there}
use Rattle.scp_sharing.proofs.Search.string_hit.Goals as goal

pub returns-then-o-eq0 : goal.returns-then-o-eq0
returns-then-o-eq0 c = sym (string_none _ _ _ c.if-o-eq0.true)

pub returns : goal.returns
returns c =
    let a = c.args in
    let s = a.self.now.stand in
    c.hits.ensures ∙ ap (λ (n : ℕ). hit s (extent a.o (3 + n))) (c.from-size.ensures ∙ c.le16.ensures)
    ∙ sym (string_there (hit s) _ _ c.if-o-eq0.false)
