-- The test is that of the definition, and the sum that of the bytes from 0x10 on.
use mathlib.Core.Path.{sym, ap, ◌∙◌}
use Prim.Native.Nat.{◌-◌}
use native.Mathlib.Omega.{arith}
use lib.ListN.{length, drop, length-drop}
use lib.Seq.{take_all}
use Rattle.octets.specs.Sums.{byte_sum}
use Rattle.scp_fields.specs.Header.{true_sum}
use Rattle.scp.specs.Validating.{wanted_sum}
use Rattle.scp.proofs.wanted_sum.Goals as goal

pub returns-then-is_read_write : goal.returns-then-is_read_write
unfolding wanted_sum true_sum
returns-then-is_read_write c = sym (simp (sym c.is_read_write.ensures ∙ c.if-is_read_write.true))

pub returns : goal.returns
unfolding wanted_sum true_sum
returns c =
    let b = c.args.image.now in
    c.byte_sum.ensures ∙ ap byte_sum (take_all (length b - 16) (drop 16 b) (omega (arith, length-drop 16 b)))
    ∙ sym (simp (sym c.is_read_write.ensures ∙ c.if-is_read_write.false))
