-- Each return meets the tests before it, in the definition's order; the table of an image that opens has the track's entry.
use Prim.Native.Nat.{◌<◌}
use mathlib.Core.Path.{◌≡◌, sym, ap, ◌∙◌}
use borrow.Author.Rules.{rules}
use Rattle.std.proofs.Common.{Ok}
use Rattle.std.proofs.lemmas.Result.{err_from_is_err_and}
use Rattle.refusals.specs.Refusals.{none, refusal, in_table}
use Rattle.refusals.proofs.Finding.{is_refusal}
use Rattle.scp_fields.specs.Editions.{slots}
use Rattle.scp_lookup.proofs.Asking.{opened_err, opened_ok, opened_entry, then_open, then_high, then_absent}
use Rattle.scp_lookup.proofs.FoundLaws.{track_refused, track_found}
use Rattle.scp_lookup.proofs.find_track.Goals as goal

pub returns-in_err-opened : goal.returns-in_err-opened
returns-in_err-opened c =
    let a = c.args in
    let told = opened_err a.edition a.image.now c.in_err-opened.ensures in
    let p = err_from_is_err_and c.from_residual.result c.from_residual.ensures.1 in
    rw (p.1, p.2) (track_refused _ _ a.track (then_open _ _ a.track none told.0 told.1) told.1)

pub returns-then-slots-t : goal.returns-then-slots-t
returns-then-slots-t c =
    let a = c.args in
    let opens = (opened_ok a.edition a.image.now c.in_ok-opened.ensures).0 in
    let absent : in_table c.at.result ≡ refusal 13 0 = ap in_table c.at.ensures in
    track_refused _ _ a.track (absent ∙ then_high a.edition a.image.now a.track none opens (search rules)) (is_refusal 12 absent)

pub returns-then-entry-eq0 : goal.returns-then-entry-eq0
returns-then-entry-eq0 c =
    let a = c.args in
    let slot : a.track < slots a.edition = search rules in
    let opens = (opened_ok a.edition a.image.now c.in_ok-opened.ensures).0 in
    let held = opened_entry a.edition a.image.now c.in_ok-opened.ensures a.track slot in
    let absent : in_table c.at-then-entry-eq0.result ≡ refusal 13 0 = ap in_table c.at-then-entry-eq0.ensures in
    track_refused _ _ a.track (absent ∙ then_absent _ _ _ none opens slot (sym held ∙ c.if-entry-eq0.true)) (is_refusal 12 absent)

pub returns : goal.returns
returns c =
    let a = c.args in
    let slot : a.track < slots a.edition = search rules in
    let opens = (opened_ok a.edition a.image.now c.in_ok-opened.ensures).0 in
    let held = opened_entry a.edition a.image.now c.in_ok-opened.ensures a.track slot in
    ap Ok held ∙ track_found _ _ _ (record { opened = opens; slot = slot; entry = λ z. c.if-entry-eq0.false (held ∙ z) })
