-- The part starts where the numbers of what is found say.
use mathlib.Core.Path.{ap, ◌∙◌}
use Prim.Native.Nat.{ℕ, ◌+◌}
use Rattle.scp_lookup.specs.Lookups.{start_in}
use Rattle.scp_direct.proofs.DirectLaws.{direct_start_lem}
use Rattle.scp_direct.proofs.flux.Goals as goal

pub returns-clause-ref_ptr_value : goal.returns-clause-ref_ptr_value
returns-clause-ref_ptr_value c =
    let a = c.args in
    let image = a.image in
    let start = ap (start_in image.now) c.find_revolution-numbers.ensures ∙ direct_start_lem a.edition image.now a.track a.revolution in
    c.flux_on.ensures.ref_ptr_value ∙ ap (λ (n : ℕ). (image.ref_ptr.0, n + image.ref_ptr.1)) start
