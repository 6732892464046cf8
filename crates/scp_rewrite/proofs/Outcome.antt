-- What a rewrite leaves, by what refuses it.
use Rattle.std.proofs.Common.{◌≡◌, ℕ, true, List, length, sym, ap, ◌∙◌, eq-eqb, ne_eqb}
use mathlib.Core.Path.{subst⁻¹}
use Rattle.refusals.specs.Refusals.{Fault, none, passes, in_table}
use Rattle.refusals.specs.declared.Refusal.{Refusal}
use Rattle.refusals.proofs.Passing.{refuses}
use Rattle.scp_fields.specs.declared.Edition.{Edition}
use Rattle.scp_fields.specs.Header.{track_entry}
use Rattle.scp_sharing.specs.RewriteFault.{rewrite_fault}
use Rattle.scp_rewrite.specs.Rewriting.{patched, summed, after_rewrite}
use Rattle.scp_rewrite.specs.Steps.{Patchable}
use Rattle.scp_sharing.proofs.Accepted.{accepted}
use Rattle.scp_rewrite.proofs.Frame.{lies}

module _ (v : Edition) (b : List ℕ) (t k d : ℕ) (ws : List ℕ) where
  -- r refuses it
  pub leaves_all : (r : Refusal) → in_table r ≡ rewrite_fault v b t k ws → b ≡ after_rewrite v b t k d ws
  unfolding after_rewrite
  leaves_all r q = sym (simp (ne_eqb (rewrite_fault v b t k ws).number 0 (refuses r q)))

  -- nothing refuses it, and e is the entry of track t as it was read
  module _ {e : ℕ} (q : none ≡ rewrite_fault v b t k ws) (entry : e ≡ track_entry b t) where
    allowed : passes (rewrite_fault v b t k ws) ≡ true
    allowed = eq-eqb (rewrite_fault v b t k ws).number 0 (ap (λ (f : Fault). f.number) (sym q))

    pub patchable : Patchable b e k (length ws)
    patchable = subst⁻¹ (λ (x : ℕ). Patchable b x k (length ws)) entry (lies v b t k 0 ws (accepted v b t k ws allowed))

    pub leaves_rewritten : {p : List ℕ} → p ≡ summed b (patched b e k d ws) → p ≡ after_rewrite v b t k d ws
    unfolding after_rewrite
    leaves_rewritten h = h ∙ ap (λ (x : ℕ). summed b (patched b x k d ws)) entry ∙ sym (simp allowed)
