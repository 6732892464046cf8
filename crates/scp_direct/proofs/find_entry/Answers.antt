-- What refuses the header or the track refuses the call; then the track is absent, or found.
use Prim.Native.Nat.{◌<◌}
use mathlib.Core.Path.{◌≡◌, refl, sym, ap, ◌∙◌}
use borrow.Author.Rules.{rules}
use Rattle.std.proofs.lemmas.Result.{err_from_is_err_and}
use Rattle.refusals.specs.Refusals.{Fault, refusal, in_table}
use Rattle.refusals.proofs.Finding.{is_refusal}
use Rattle.refusals.proofs.Passing.{refuses}
use Rattle.scp_fields.specs.Editions.{slots}
use Rattle.scp_direct.proofs.DirectLaws.{entry_refused, entry_found, asked_first, first_clear, by_slot, by_entry, by_track}
use Rattle.scp_direct.proofs.find_entry.Goals as goal

pub returns-in_err-first_fault : goal.returns-in_err-first_fault
returns-in_err-first_fault c =
    let a = c.args in
    let number = refuses c.in_err-first_fault.field-0.0 refl in
    let p = err_from_is_err_and c.from_residual.result c.from_residual.ensures.1 in
    rw (p.1, p.2) (entry_refused _ _ a.track (asked_first a.edition a.image.now a.track c.in_err-first_fault.ensures number) number)

pub returns-then-slots-t : goal.returns-then-slots-t
returns-then-slots-t c =
    let a = c.args in
    let clear = first_clear a.edition a.image.now a.track c.in_ok-first_fault.ensures refl in
    let absent : in_table c.at.result ≡ refusal 13 0 = ap in_table c.at.ensures in
    entry_refused _ _ a.track (by_slot a.edition a.image.now a.track clear.0 (search rules) absent) (is_refusal 12 absent)

pub returns-then-entry-eq0 : goal.returns-then-entry-eq0
returns-then-entry-eq0 c =
    let a = c.args in
    let clear = first_clear a.edition a.image.now a.track c.in_ok-first_fault.ensures refl in
    let slot : a.track < slots a.edition = search rules in
    let zero = sym c.track_entry-entry.ensures ∙ c.if-entry-eq0.true in
    let absent : in_table c.at-then-entry-eq0.result ≡ refusal 13 0 = ap in_table c.at-then-entry-eq0.ensures in
    entry_refused _ _ a.track (by_entry a.edition a.image.now a.track clear.0 slot zero absent) (is_refusal 12 absent)

pub returns : goal.returns
returns c =
    let a = c.args in
    let clear = first_clear a.edition a.image.now a.track c.in_ok-first_fault.ensures refl in
    let slot : a.track < slots a.edition = search rules in
    let entry = c.track_entry-entry.ensures in
    let asked = by_track a.edition a.image.now a.track clear.0 slot (λ z. c.if-entry-eq0.false (entry ∙ z)) refl in
    entry_found _ _ a.track (ap (λ (f : Fault). f.number) (sym asked) ∙ clear.1) entry
