-- The numbers are those of the definition: at a zero word, at any other, and where no word is left.
use mathlib.Core.Path.{◌≡◌, sym, ap, ◌∙◌}
use mathlib.Core.List.{[]}
use mathlib.Core.Bool.{Bool, not}
use Prim.Native.Nat.{◌+◌, ◌-◌, ◌*◌, ◌<◌}
use native.Mathlib.Decide.{ℕ_discrete}
use native.Mathlib.Omega.{arith}
use lib.Dec.{eqb}
use lib.ListN.{length}
use borrow.Author.Tests.{eq-eqb, ne_eqb}
use Rattle.std.specs.Int.{w16, from_be_bytes, from_bool}
use Rattle.std.proofs.lemmas.List.{get_or-take, length-take}
use Rattle.flux.specs.Coding.{words_of}
use Rattle.flux.specs.Reading.{zero_ticks, intervals, open_time, total_ticks}
use Rattle.flux.proofs.Counting.{counted}
use Rattle.flux.proofs.WordLaws.{good_size, length_words, WordAt, at_most_one, word_read, closing_more, total_zero, total_close}
use Rattle.flux_summary.proofs.Trailing.{nothing_left, one_more, open_behind, all_open}
use Rattle.flux_summary.proofs.summarize.Goals as goal
use Rattle.flux_summary.proofs.summarize.Goals.{then-loop-closed-test+else-from_be_bytes-eq0, else-loop-closed-test}

pub loop-closed-init : goal.loop-closed-init
loop-closed-init c =
    let s = c.args.flux.now in
    nothing_left (words_of s) (omega (arith, length_words s, c.as_chunks.ensures.front_len))

pub bounds-pairs-closed : goal.bounds-pairs-closed
bounds-pairs-closed c = omega (arith, length_words c.args.flux.now, c.as_chunks.ensures.front_len, c.loop-closed.invariant.within, c.loop-closed-test.true)

pub offset_bounds-pairs-closed : goal.offset_bounds-pairs-closed
offset_bounds-pairs-closed c =
    let limit = (good_size (length c.args.flux.now) (sym c.bad_flux_size.ensures ∙ c.if-bad_flux_size.false)).limit in
    omega (arith, limit, length_words c.args.flux.now, c.loop-closed.invariant.within)

pub loop-closed-preserved : goal.loop-closed-preserved
loop-closed-preserved c =
    let s = c.args.flux.now in
    let n = c.loop-closed.closed in
    let below : n - 1 < length c.as_chunks.result.0.now = omega (arith, length_words s, c.as_chunks.ensures.front_len, c.loop-closed.invariant.within, c.loop-closed-test.true) in
    let at : WordAt (words_of s) (n - 1) c.from_be_bytes.result = word_read _ _ c.as_chunks.ensures.front below c.from_be_bytes.ensures in
    let next : n ≡ n - 1 + 1 = omega arith in
    one_more at c.if-from_be_bytes-eq0.true (rw next at c.loop-closed.invariant)

pub loop-pair-preserved : goal.loop-pair-preserved
loop-pair-preserved c =
    let s = c.args.flux.now in
    let l = c.loop-pair.invariant in
    let i = c.loop-pair.pair-index in
    let n = c.loop-closed.closed in
    let ps = c.as_chunks.result.0.now in
    let w = c.from_be_bytes-word.result in
    let held = length-take n ps in
    let below : i < n = omega arith in
    let there : i < length ps = omega arith in
    let at : WordAt (words_of s) i w =
    word_read _ _ c.as_chunks.ensures.front there (c.from_be_bytes-word.ensures ∙ ap (from_be_bytes w16) (get_or-take n ps i [] below)) in
    let more = closing_more at in
    let one = at_most_one (not (eqb w 0)) in
    elim (ℕ_discrete w 0) [
      | yes z ↦ (
          let sum = total_zero at z in
          let counts : from_bool (not (eqb w 0)) ≡ 0 = ap (λ (x : Bool). from_bool (not x)) (eq-eqb w 0 z) in
          record { limit = l.limit; few = omega arith; small = omega arith; count = omega arith; sum = omega arith })
      | no z ↦ (
          let sum = total_close at z in
          let counts : from_bool (not (eqb w 0)) ≡ 1 = ap (λ (x : Bool). from_bool (not x)) (ne_eqb w 0 z) in
          record { limit = l.limit; few = omega arith; small = omega arith; count = omega arith; sum = omega arith })
    ]

pub overflow_add-ticks : goal.overflow_add-ticks
overflow_add-ticks c = omega (arith, length-take c.loop-closed.closed c.as_chunks.result.0.now)

pub overflow_add-result : goal.overflow_add-result
overflow_add-result c = omega (arith, length-take c.loop-closed.closed c.as_chunks.result.0.now)

pub overflow_sub-result-2 : goal.overflow_sub-result-2
overflow_sub-result-2 c = omega (arith, length-take c.loop-closed.closed c.as_chunks.result.0.now)

pub returns : goal.returns
returns c =
    let s = c.args.flux.now in
    let ws = words_of s in
    let l = c.loop-pair.invariant in
    let n = c.loop-closed.closed in
    let behind = c.loop-closed.invariant in
    let held = length-take n c.as_chunks.result.0.now in
    let words = length_words s in
    let pairs = c.as_chunks.ensures.front_len in
    let end : c.loop-pair.pair-index ≡ n = omega arith in
    let count = rw end at l.count in
    let sum = rw end at l.sum in
    let none = behind.none in
    let ticks = behind.ticks in
    let all = counted ws in
    let m : c.loop-pair.intervals ≡ length (intervals 0 ws) = omega arith in
    let left : 65_536 * (length c.as_chunks.result.0.now - n) ≡ zero_ticks * (length ws - n) = omega arith in
    let past : open_time 0 ws ≡ zero_ticks * (length ws - n) =
    elim c.loop-closed-test.branch [
      | then-loop-closed-test+else-from_be_bytes-eq0 w ↦ (
          let below : n - 1 < length c.as_chunks.result.0.now = omega arith in
          let at : WordAt ws (n - 1) w.from_be_bytes.result = word_read _ _ c.as_chunks.ensures.front below w.from_be_bytes.ensures in
          let next : n ≡ n - 1 + 1 = omega arith in
          rw next (open_behind at w.if-from_be_bytes-eq0.false (rw next at behind)))
      | else-loop-closed-test w ↦ (let zero : n ≡ 0 = omega arith in rw zero (all_open (rw zero at behind)))
    ] in
    let o = left ∙ sym past in
    let t : c.loop-pair.ticks + 65_536 * (length c.as_chunks.result.0.now - c.loop-pair.intervals) ≡ total_ticks ws = omega arith in
    simp (sym c.bad_flux_size.ensures ∙ c.if-bad_flux_size.false) cc
