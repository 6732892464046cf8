-- Refusals 1 to 6 in their order (RO-3).
use Rattle.std.specs.Prelude.{ℕ, List}
use Rattle.refusals.specs.Refusals.{Fault, none, refusal, refuse_if}
use Rattle.scp_header.specs.HeaderTests.{bad_size, bad_sign, bad_width, bad_revolutions, bad_span, bad_heads}
use Rattle.scp_fields.specs.declared.Edition.{Edition}

-- RO-3: of 1 to 6 the lowest number comes first.
unfoldable pub header_fault : Edition → List ℕ → Fault
header_fault v b =
    refuse_if (bad_size v b) (refusal 1 0)
    (refuse_if (bad_sign b) (refusal 2 0)
    (refuse_if (bad_width b) (refusal 3 0)
    (refuse_if (bad_revolutions b) (refusal 4 0)
    (refuse_if (bad_span v b) (refusal 5 0)
    (refuse_if (bad_heads b) (refusal 6 0)
    none)))))
