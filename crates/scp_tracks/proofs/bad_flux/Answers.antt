-- A pair of which one ends past the data answers at once, one of which neither does goes on, and the last of an odd number answers for itself.
use Prim.Native.Nat.{◌+◌, ◌-◌, ◌*◌}
use mathlib.Core.Path.{◌≡◌, ap, ◌∙◌}
use native.Mathlib.Omega.{arith}
use Rattle.refusals.specs.Search.{any_from}
use Rattle.refusals.proofs.Loops.{any_end, two_here, two_next, last_here}
use Rattle.scp_tracks.specs.Tracks.{flux_past}
use Rattle.scp_tracks.proofs.bad_flux.Goals as goal

pub loop-pair-init : goal.loop-pair-init
loop-pair-init c = ap (any_from (flux_past c.args.«end» c.args.image.now c.args.e) 0) (omega arith)

pub returns-then-flux_past : goal.returns-then-flux_past
returns-then-flux_past c =
    let a = c.args in
    let room : a.e + (a.«end» - a.e) ≡ a.«end» = omega arith in
    two_here (flux_past a.«end» a.image.now a.e) (2 * c.loop-pair.pair) c.loop-pair.invariant (rw room at c.flux_past.ensures)
    (rw room at c.flux_past-in-loop-pair.ensures) (omega arith) c.if-flux_past.true

pub loop-pair-preserved : goal.loop-pair-preserved
loop-pair-preserved c =
    let a = c.args in
    let room : a.e + (a.«end» - a.e) ≡ a.«end» = omega arith in
    let next : 2 * (c.loop-pair.pair + 1) ≡ 2 * c.loop-pair.pair + 2 = omega arith in
    rw next
    (two_next (flux_past a.«end» a.image.now a.e) (2 * c.loop-pair.pair) c.loop-pair.invariant (rw room at c.flux_past.ensures)
    (rw room at c.flux_past-in-loop-pair.ensures) (omega arith) c.if-flux_past.false)

pub returns-then-revolutions-eq1 : goal.returns-then-revolutions-eq1
returns-then-revolutions-eq1 c =
    let a = c.args in
    let room : a.e + (a.«end» - a.e) ≡ a.«end» = omega arith in
    let last : c.revolutions-revolutions.result - 1 ≡ 2 * c.loop-pair.pair = omega arith in
    (rw (room, last) at c.flux_past-then-revolutions-eq1.ensures)
    ∙ last_here (flux_past a.«end» a.image.now a.e) (2 * c.loop-pair.pair) c.loop-pair.invariant (omega arith) (omega arith)

pub returns : goal.returns
returns c = any_end (flux_past c.args.«end» c.args.image.now c.args.e) c.loop-pair.invariant (omega arith)
