-- The first finding from track t on is the first of all.
use Prim.Native.Nat.{ℕ, ◌-◌}
use mathlib.Core.Path.{ap, ◌∙◌}
use Rattle.std.proofs.lemmas.Result.{err_from_is_err_and}
use Rattle.refusals.specs.Search.{first_from}
use Rattle.refusals.proofs.Loops.{found_none}
use Rattle.refusals.proofs.Passing.{found_at, found_past}
use Rattle.scp_tracks.specs.Tracks.{track_fault_at, track_fault}
use Rattle.scp_open.proofs.OpenLaws.{walk_least}
use Rattle.scp_open.proofs.tracks_fault.Goals as goal

pub loop-t-init : goal.loop-t-init
loop-t-init c =
    let a = c.args in
    ap (λ (n : ℕ). first_from (track_fault a.edition a.image.now) a.from (n - a.from))
    (c.min-end.ensures ∙ walk_least a.edition a.to c.slots.ensures.0)

pub returns-in_err-track_fault : goal.returns-in_err-track_fault
returns-in_err-track_fault c =
    let a = c.args in
    let of_entry = ap (λ (e : ℕ). track_fault_at a.edition a.image.now e c.loop-t.t) c.track_entry-entry.ensures in
    let p = err_from_is_err_and c.from_residual.result c.from_residual.ensures.1 in
    rw (p.1, p.2) (found_at _ c.loop-t.invariant c.loop-t-test.true _ (c.in_err-track_fault.ensures ∙ of_entry))

pub loop-t-preserved : goal.loop-t-preserved
loop-t-preserved c =
    let a = c.args in
    let of_entry = ap (λ (e : ℕ). track_fault_at a.edition a.image.now e c.loop-t.t) c.track_entry-entry.ensures in
    found_past _ c.loop-t.invariant c.loop-t-test.true (c.in_ok-track_fault.ensures ∙ of_entry)

pub returns : goal.returns
returns c = found_none _ c.loop-t.invariant c.loop-t-test.false
