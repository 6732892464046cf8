-- Validating refuses exactly what does not obey: what opening refuses, and then a checksum that is not the wanted one.
use Prim.Native.Nat.{ℕ}
use mathlib.Core.Path.{◌≡◌, refl, sym, ap, ◌∙◌}
use mathlib.Core.List.{List}
use mathlib.Core.Bool.{Bool, true, false, cond}
use borrow.Author.Tests.{eqb-true, not-false}
use Rattle.refusals.specs.Refusals.{Fault, none}
use Rattle.refusals.proofs.Finding.{Clear, both_clear, not_refused, clear_first, clear_refuse}
use Rattle.scp_fields.specs.declared.Edition.{Edition}
use Rattle.scp_fields.specs.Header.{read_write, stored_sum, true_sum}
use Rattle.scp_open.proofs.Opens.{opens, clears}
use Rattle.scp.specs.Validating.{wanted_sum, bad_sum, validate_fault}
use Rattle.scp.proofs.Answering.{validate_passes}
use Rattle.scp_theorems.specs.Theorems.{Valid, ValidatesExactly}

module _ (v : Edition) (b : List ℕ) where
  wanted_of : stored_sum b ≡ wanted_sum b → (x : Bool) → read_write b ≡ x → stored_sum b ≡ cond x 0 (true_sum b)
  unfolding wanted_sum
  wanted_of e x q = e ∙ ap (λ (y : Bool). cond y 0 (true_sum b)) q

  wanted_by : (x : Bool) → read_write b ≡ x → stored_sum b ≡ cond x 0 (true_sum b) → stored_sum b ≡ wanted_sum b
  unfolding wanted_sum
  wanted_by x q e = e ∙ ap (λ (y : Bool). cond y 0 (true_sum b)) (sym q)

  obeys : (validate_fault v b).number ≡ 0 → Valid v b
  unfolding validate_fault
  obeys z =
      let both = both_clear _ _ z in
      let sum = eqb-true (stored_sum b) (wanted_sum b) (not-false _ (not_refused (bad_sum b) 11 0 none both.1).0) in
      record { opens = opens v b both.0; read_only = wanted_of sum false; read_written = wanted_of sum true }

  stored_wanted : Valid v b → stored_sum b ≡ wanted_sum b
  stored_wanted h = go (read_write b) refl
    where
      go : (x : Bool) → read_write b ≡ x → stored_sum b ≡ wanted_sum b
      go true q = wanted_by true q (h.read_written q)
      go false q = wanted_by false q (h.read_only q)

  clear_validate : Clear (validate_fault v b)
  unfolding validate_fault
  clear_validate = clear_first _ _ (clear_refuse (bad_sum b) 11 0 none (λ e. refl))

pub validates_exactly : ValidatesExactly
validates_exactly v b = (
  λ e. obeys v b (ap (λ (x : Fault). x.number) e),
  λ h. clear_validate v b (validate_passes v b (clears v b h.opens) (stored_wanted v b h)),
)
