-- The loop's invariant: whole sequences stand before the place.
use Rattle.std.proofs.Common.{◌≡◌, ◌+◌, ◌<◌, slice_index, sym, ◌∙◌, arith}
use Rattle.std.proofs.lemmas.List.{take_rest}
use borrow.Author.Tests.{ltb-true}
use Rattle.utf8.specs.Reading.{Passed}
use Rattle.utf8.proofs.Places.{pass_then, pass_ascii, pass_found, pass_rest, stops, ends}
use Rattle.utf8.proofs.valid_up_to.Goals as goal

pub loop-at-preserved-then-is_ascii : goal.loop-at-preserved-then-is_ascii
loop-at-preserved-then-is_ascii c =
    let t = c.args.text.now in
    let i = c.loop-at.at in
    let k = c.ascii_len.result in
    let e : i + 1 + k ≡ i + (1 + k) = omega arith in
    let first : slice_index t i < 0x80 = ltb-true _ _ (sym c.is_ascii.ensures ∙ c.if-is_ascii.true) in
    let rest : Passed t (i + 1) (i + 1 + k) = pass_rest t (i + 1) k (omega arith) (rw (take_rest t (i + 1)) at c.ascii_len.ensures) in
    rw (sym e) (pass_then c.loop-at.invariant (pass_then (pass_ascii t i (omega arith) first) rest))

pub overflow_add-at-in-Some : goal.overflow_add-at-in-Some
overflow_add-at-in-Some c =
    omega (arith, (pass_found c.args.text.now c.loop-at.at _ (omega arith) c.in-Some.ensures.1 (λ e. omega arith)).within)

pub loop-at-preserved : goal.loop-at-preserved
loop-at-preserved c =
    pass_then c.loop-at.invariant (pass_found _ _ _ (omega arith) c.in-Some.ensures.1 (λ e. omega arith))

pub returns-in-None : goal.returns-in-None
returns-in-None c = stops _ _ c.loop-at.invariant c.in-None.ensures

pub returns : goal.returns
returns c = ends _ _ c.loop-at.invariant (omega arith)
