-- What the codes of the direct calls are proved to mean. The proof stands in proofs/.
use Rattle.std.specs.Prelude.{ℕ, List}
use Rattle.scp_fields.specs.declared.Edition.{Edition}
use Rattle.scp_boundary.specs.Theorems.{Whole}
use Rattle.scp_direct.specs.Direct.{direct_track, direct_revolution, direct_flux}

-- C-2: no refusal of a direct call is cut.
pub record DirectUncut : Type 0 where
  pub track : (v : Edition) (b : List ℕ) (t : ℕ) → Whole (direct_track v b t)
  pub revolution : (v : Edition) (b : List ℕ) (t k : ℕ) → Whole (direct_revolution v b t k)
  pub flux : (v : Edition) (b : List ℕ) (t k : ℕ) → Whole (direct_flux v b t k)
