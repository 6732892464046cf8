-- What reading into so many places leaves of the second list, which is filled as far as it reaches. There are as many closing words as intervals, so
-- that one test decides of both lists.
use mathlib.Core.Path.{◌≡◌, sym, ap, ◌∙◌}
use Prim.Native.Nat.{ℕ, ◌<◌, ◌≤◌}
use native.Mathlib.Omega.{arith}
use mathlib.Core.List.{List, ◌++◌}
use mathlib.Core.Bool.{false}
use lib.ListN.{length, take, drop}
use lib.Seq.{take_all}
use Rattle.flux.specs.Coding.{words_of, bad_flux_size}
use Rattle.flux.specs.Reading.{intervals, closing_numbers}
use Rattle.flux.specs.Answers.{Filling, buffer_after, closing_reading}
use Rattle.flux.proofs.Counting.{as_many}
use Rattle.flux.proofs.AnswerLaws.{list_short, list_fits}

module _ (s : List ℕ) (places : ℕ) (good : bad_flux_size (length s) ≡ false) where
  pub short_keeps : (old : List ℕ) → places < length (intervals 0 (words_of s)) → old ≡ take (length old) (buffer_after old (closing_reading s places))
  short_keeps old short =
      let n = as_many (words_of s) in
      sym (ap (λ (f : Filling). take (length old) (buffer_after old f)) (list_short s places (closing_numbers 0 (words_of s)) good (omega arith))
      ∙ take_all (length old) old (omega arith))

  pub enough_fills : (old : List ℕ) → length (intervals 0 (words_of s)) ≤ places
      → take (length old) (closing_numbers 0 (words_of s) ++ drop (length (closing_numbers 0 (words_of s))) old)
      ≡ take (length old) (buffer_after old (closing_reading s places))
  enough_fills old fits =
      let n = as_many (words_of s) in
      sym (ap (λ (f : Filling). take (length old) (buffer_after old f)) (list_fits s places (closing_numbers 0 (words_of s)) good (omega arith)))
