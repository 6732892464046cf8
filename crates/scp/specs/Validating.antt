-- Validating: 1 to 12 and 19 (R-12, RO-5).
use Rattle.std.specs.Prelude.{ℕ, List, Bool, not, cond, eqb}
use Rattle.refusals.specs.Refusals.{Fault, none, refusal, refuse_if, first_of}
use Rattle.scp_fields.specs.declared.Edition.{Edition}
use Rattle.scp_fields.specs.Header.{read_write, stored_sum, true_sum}
use Rattle.scp_open.specs.Opening.{open_fault}

-- R-12: the checksum that is to be stored: the true sum of a read-only image, 0 of a read/write one.
unfoldable pub wanted_sum : List ℕ → ℕ
wanted_sum b = cond (read_write b) 0 (true_sum b)

-- R-12: a read-only image does not store its true byte sum, or a read/write image does not store 0.
abbrev pub bad_sum : List ℕ → Bool
bad_sum b = not (eqb (stored_sum b) (wanted_sum b))

-- RO-5: validating: 1 to 12 and 19.
unfoldable pub validate_fault : Edition → List ℕ → Fault
validate_fault v b = first_of (open_fault v b) (refuse_if (bad_sum b) (refusal 12 0) none)
