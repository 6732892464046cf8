-- Measuring answers what the definition gives for so much room.
use mathlib.Core.Path.{◌≡◌, sym, ap, ◌∙◌}
use mathlib.Core.List.{[], ◌∷◌}
use Prim.Native.Nat.{ℕ, ◌*◌, ◌≤◌, ◌<◌}
use native.Mathlib.Omega.{arith}
use lib.ListN.{length, get_or}
use borrow.Author.Tests.{lt-ltb, le-ltb}
use Rattle.flux.specs.Coding.{bytes_of}
use Rattle.flux.specs.Writing.{words_for, first_inexpressible}
use Rattle.flux.specs.Answers.{refused, gives, time_refused}
use Rattle.flux.proofs.TimeLaws.{expressed, length_bytes, first_here, first_next, first_end, size_next, words_end}
use Rattle.flux.proofs.AnswerLaws.{refused_by}
use Rattle.flux.proofs.measure.Goals as goal
use Rattle.flux.proofs.measure.Goals.{then-words-most, else-words-most}

pub loop-i-preserved : goal.loop-i-preserved
loop-i-preserved c =
    let l = c.loop-i.invariant in
    let ts = c.args.times.now in
    let i = c.loop-i.i in
    let here = sym c.can_express.ensures ∙ c.if-not-can_express.false in
    let good = expressed (get_or ts i 0) here in
    let next = first_next ts i c.loop-i-test.true here in
    let size = size_next ts i c.loop-i-test.true in
    elim c.if-words-most.branch [
      | then-words-most w ↦
          let whole = l.exact w.if-words-most.true in
          record { first = omega arith; exact = λ h. omega arith; above = λ h. omega arith; bound = omega arith }
      | else-words-most w ↦
          let over = l.above w.if-words-most.false in
          record { first = omega arith; exact = λ h. absurd (omega arith); above = λ h. over; bound = omega arith }
    ]

pub returns-then-not-can_express : goal.returns-then-not-can_express
returns-then-not-can_express c =
    let ts = c.args.times.now in
    let i = c.loop-i.i in
    let here = first_here ts i c.loop-i-test.true (sym c.can_express.ensures ∙ c.if-not-can_express.true) in
    let e : first_inexpressible ts ≡ i = omega arith in
    let h : first_inexpressible ts < length ts = omega arith in
    simp (lt-ltb _ _ h) (refused_by c.at.ensures ∙ ap (refused time_refused) (sym e))

pub returns-then-most-words : goal.returns-then-most-words
returns-then-most-words c =
    let ts = c.args.times.now in
    let end = first_end ts c.loop-i.i c.loop-i-test.false in
    let bytes = length_bytes (words_for ts) in
    let all : length ts ≤ first_inexpressible ts = omega arith in
    let over = c.loop-i.invariant.above c.if-most-words.true in
    let h : c.args.room < length (bytes_of (words_for ts)) = omega arith in
    simp (le-ltb _ _ all, lt-ltb _ _ h) (refused_by c.at-then-most-words.ensures)

pub returns : goal.returns
returns c =
    let ts = c.args.times.now in
    let end = first_end ts c.loop-i.i c.loop-i-test.false in
    let rest = ap length (words_end ts c.loop-i.i c.loop-i-test.false) in
    let bytes = length_bytes (words_for ts) in
    let all : length ts ≤ first_inexpressible ts = omega arith in
    let exact = c.loop-i.invariant.exact c.if-most-words.false in
    let h : length (bytes_of (words_for ts)) ≤ c.args.room = omega arith in
    let n : 2 * c.loop-i.words ≡ length (bytes_of (words_for ts)) = omega arith in
    simp (le-ltb _ _ all, le-ltb _ _ h) (ap (λ (k : ℕ). gives (k ∷ [])) n)
