-- What refuses the question is handed on; past it the revolution is there, and each return meets the tests before it.
use mathlib.Core.Path.{ap, ◌∙◌}
use native.Mathlib.Omega.{arith}
use Rattle.std.proofs.lemmas.Result.{err_from_is_err_and}
use Rattle.refusals.specs.Refusals.{in_table}
use Rattle.scp_open.proofs.Opens.{opens}
use Rattle.scp_lookup.proofs.FoundLaws.{found_data, found_refused}
use Rattle.scp_sharing.proofs.Asked.{headers_inside, fault_refused, words_refuse, shared_refuse, none_refuse}
use Rattle.scp_sharing.proofs.rewrite_fault.Goals as goal

pub returns-in_err-data : goal.returns-in_err-data
returns-in_err-data c =
    let p = err_from_is_err_and c.from_residual.result c.from_residual.ensures.1 in
    let refused = found_refused _ _ _ _ c.in_err-data.ensures in
    rw (p.1, p.2) (fault_refused _ _ _ _ _ refused.refuses refused.number)

pub returns-then-bad_words : goal.returns-then-bad_words
returns-then-bad_words c =
    let found = found_data _ _ _ _ c.in_ok-data.ensures in
    ap in_table c.at.ensures ∙ words_refuse _ _ _ _ _ found c.bad_words.ensures c.if-bad_words.true

pub stand_of-stand-requires : goal.stand_of-stand-requires
stand_of-stand-requires c =
    let there = (found_data _ _ _ _ c.in_ok-data.ensures).present in
    let inside = headers_inside (opens _ _ there.track.opened) _ there.track.slot there.track.entry in
    let entry = c.track_entry.ensures in
    let below = there.below in
    omega (arith, inside, entry, below)

pub invariant_of-search-clause-headers : goal.invariant_of-search-clause-headers
invariant_of-search-clause-headers c =
    headers_inside (opens _ _ (found_data _ _ _ _ c.in_ok-data.ensures).present.track.opened)

pub invariant_of-search-clause-below : goal.invariant_of-search-clause-below
invariant_of-search-clause-below c = (found_data _ _ _ _ c.in_ok-data.ensures).present.below

pub returns-then-is_shared : goal.returns-then-is_shared
returns-then-is_shared c =
    let found = found_data _ _ _ _ c.in_ok-data.ensures in
    ap in_table c.at-then-is_shared.ensures
    ∙ shared_refuse _ _ _ _ _ found c.bad_words.ensures c.if-bad_words.false c.track_entry.ensures c.stand_of-stand.ensures c.is_shared.ensures
    c.if-is_shared.true

pub returns : goal.returns
returns c =
    let found = found_data _ _ _ _ c.in_ok-data.ensures in
    none_refuse _ _ _ _ _ found c.bad_words.ensures c.if-bad_words.false c.track_entry.ensures c.stand_of-stand.ensures c.is_shared.ensures
    c.if-is_shared.false
