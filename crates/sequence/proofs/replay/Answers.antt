-- Too few places refuse, and nothing is done; else the calls are run, and demand 3 holds of them, since the elements of the image and of
-- the words are bytes.
use Prim.Native.Nat.{◌*◌, ◌/◌, ◌<◌, ◌≤◌}
use mathlib.Core.Path.{ap}
use native.Mathlib.Omega.{arith}
use lib.ListN.{length}
use Rattle.refusals.specs.Refusals.{in_table}
use Rattle.sequence.proofs.ReplayLaws.{refused_replay, done_replay}
use Rattle.sequence.specs.Calls.{call_size}
use Rattle.sequence.proofs.replay.Goals as goal

pub returns-then-answers-calls : goal.returns-then-answers-calls
returns-then-answers-calls c =
    let a = c.args in
    let few : length a.answers.now < 16 * (length a.calls.now / call_size) = omega arith in
    let all = refused_replay _ _ _ _ few (ap in_table c.at.ensures) in
    record { result_value = all.0; replays = all.1 }

pub returns : goal.returns
returns c =
    let a = c.args in
    let places : 16 * (length a.calls.now / call_size) ≤ length a.answers.now = omega arith in
    let all = done_replay _ _ _ _ places (λ i. (c.slice_known-1.given i).fits) (λ i. (c.type_inv.words i).fits) c.run_calls.ensures.image_after c.run_calls.ensures.answers_after in
    record { result_value = all.0; replays = all.1 }
