-- Each step moves one interval over, and leaves one step fewer.
use Rattle.std.proofs.Common.{◌≡◌, ◌-◌, ◌+◌, sym, ap, ◌∙◌, arith, length, Ok}
use Rattle.flux.specs.Answers.{of_step}
use Rattle.scp_listing.proofs.Counting.{left_start, left_none, never_refused, left_step, left_open}
use Rattle.scp_listing.proofs.count_flux.Goals as goal

pub loop-init : goal.loop-init
loop-init c =
    let whole : length c.args.flux.now - 0 ≡ length c.args.flux.now = omega arith in
    (omega arith, λ good. rw whole (left_start _))

pub returns-in-Ok-Open : goal.returns-in-Ok-Open
returns-in-Ok-Open c =
    λ good.
    left_open c.args.flux.now good c.loop.cursor.word _ _ _ _ _
    (ap of_step (sym (c.in-Ok-Open.is ∙ ap Ok c.in-Ok-Open.field-0-is)) ∙ c.step.ensures)
    (c.loop.invariant.1 good)

pub loop-preserved : goal.loop-preserved
loop-preserved c =
    let l = c.loop in
    let left = length c.args.flux.now - l.counter in
    let one : left - 1 ≡ length c.args.flux.now - (l.counter + 1) = omega arith in
    let said = ap of_step (sym (c.in-Ok-Interval.is ∙ ap Ok c.in-Ok-Interval.field-0-is)) ∙ c.step.ensures in (
      omega (arith, l.invariant.0),
      λ good. rw one at (left_step c.args.flux.now good l.cursor.word _ _ _ _ l.intervals l.last left said (omega arith) (l.invariant.1 good)),
    )

pub returns-after-loop : goal.returns-after-loop
returns-after-loop c =
    λ good.
    let none : length c.args.flux.now - c.loop.counter ≡ 0 = omega arith in
    left_none c.args.flux.now (rw none at (c.loop.invariant.1 good))

pub returns-in-Err : goal.returns-in-Err
returns-in-Err c =
    λ good.
    absurd
    (never_refused c.args.flux.now good c.loop.cursor.word _ _
    (ap of_step (sym c.in-Err.is) ∙ c.step.ensures))
