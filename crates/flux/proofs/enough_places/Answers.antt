-- The intervals number as the closing words, and so are no more than the words.
use mathlib.Core.Path.{sym, ap, ◌∙◌}
use Prim.Native.Nat.{ℕ, ◌≤◌}
use native.Mathlib.Omega.{arith}
use lib.ListN.{length}
use lib.Dec.{leb}
use borrow.Author.Tests.{le-leb}
use Rattle.flux.specs.Coding.{words_of}
use Rattle.flux.specs.Reading.{intervals}
use Rattle.flux.proofs.WordLaws.{length_words}
use Rattle.flux.proofs.Counting.{counted, at_most_words}
use Rattle.flux.proofs.enough_places.Goals as goal

pub returns-then-flux-places : goal.returns-then-flux-places
returns-then-flux-places c =
    let s = c.args.flux.now in
    let n = counted (words_of s) in
    let m = at_most_words (words_of s) in
    let l = length_words s in
    let h : length (intervals 0 (words_of s)) ≤ c.args.places = omega arith in
    le-leb _ _ c.if-flux-places.true ∙ sym (le-leb _ _ h)

pub returns-else-flux-places : goal.returns-else-flux-places
returns-else-flux-places c = ap (λ (k : ℕ). leb k c.args.places) (c.count_closing.ensures ∙ sym (counted (words_of c.args.flux.now)))
