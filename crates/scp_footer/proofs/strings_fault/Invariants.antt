-- The first finding from string j on is the first of all.
use Rattle.std.proofs.Common.{◌≡◌, ◌-◌}
use Rattle.refusals.specs.Search.{first_from}
use Rattle.scp_fields.specs.Footer.{string_slots}
use Rattle.scp_footer.specs.Footer.{string_fault, strings_fault}
use Rattle.scp_footer.proofs.strings_fault.Given as goal

abbrev pub invariant-loop-j : goal.invariant-loop-j
invariant-loop-j l = first_from (string_fault l.edition l.image) l.j (string_slots - l.j) ≡ strings_fault l.edition l.image
