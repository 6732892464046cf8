-- Each number is read from its offset in the footer.
use mathlib.Core.Path.{◌∙◌}
use mathlib.Core.List.{[], ◌∷◌}
use Prim.Native.Nat.{◌+◌}
use mir.Syntax.{w64}
use mir.ValLaws.{to_z-of_z}
use Rattle.octets.specs.Numbers.{byte_at}
use Rattle.scp_fields.specs.Footer.{footer_at}
use Rattle.scp.proofs.Answering.{footer_same}
use Rattle.scp.specs.Answers.{footer_values}
use Rattle.scp.proofs.read_footer.Goals as goal

pub returns : goal.returns
unfolding footer_values
returns c =
    let b = c.args.image.now in
    footer_same
    (byte_at b (footer_at b + 0x28) ∷ byte_at b (footer_at b + 0x29) ∷ byte_at b (footer_at b + 0x2A) ∷ byte_at b (footer_at b + 0x2B) ∷ [])
    c.string_entry.ensures c.string_entry-2.ensures c.string_entry-3.ensures
    c.string_entry-4.ensures c.string_entry-5.ensures c.string_entry-6.ensures (to_z-of_z w64 c.le64.result (record { sfits = c.le64.type_inv }) ∙ c.le64.ensures)
    (to_z-of_z w64 c.le64-2.result (record { sfits = c.le64-2.type_inv }) ∙ c.le64-2.ensures)
