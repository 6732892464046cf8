-- Writing is lent nothing of the image where `out` has no place for its length. It refuses then as if it had been lent all, but with 15 in
-- place of the length; where `out` has a place it is lent all.
use Prim.Native.Nat.{ℕ, ◌≤◌}
use mathlib.Core.Path.{◌≡◌, refl, sym, ap, ◌∙◌}
use mathlib.Core.List.{List}
use mathlib.Core.Bool.{Bool, true, false, cond}
use native.Mathlib.Omega.{arith}
use lib.ListN.{length, take}
use lib.Seq.{length-take-le}
use lib.Dec.{ltb}
use borrow.Author.Tests.{lt-ltb}
use Rattle.std.specs.Prelude.{Result, Ok, Err}
use Rattle.refusals.specs.Refusals.{Fault, none, refusal, refuse_if, unless}
use Rattle.boundary.specs.Boundary.{within}
use Rattle.dsk_layout.specs.declared.Layout.{Layout}
use Rattle.dsk_layout.specs.Layouts.{bad_layout}
use Rattle.dsk_write.specs.Images.{header_bytes, image_bytes}
use Rattle.dsk_write.specs.Writing.{write_fault, write_answer}
use Rattle.dsk_c.specs.Values.{of_written, with_length, write_to}

-- ---- a short `out`

given_by : (y : Bool) (places n : ℕ) → ltb places 1 ≡ y
    → within places (of_written (cond y (Err (refusal 15 0)) (Ok n))) ≡ of_written (cond y (Err (refusal 15 0)) (Ok n))
given_by true places n e = refl
given_by false places n e = simp e

-- where there is a place for the length it is given
given : (places : ℕ) (w : Result ℕ Fault) → within places (of_written (with_length places w)) ≡ of_written (with_length places w)
given places (Ok n) = given_by (ltb places 1) places n refl
given places (Err r) = refl

all_lent : (places : ℕ) (w : Result ℕ Fault) → ltb places 1 ≡ false → w ≡ with_length places w
all_lent places (Ok n) e = sym (simp e)
all_lent places (Err r) e = refl

-- ---- the part of the image that is lent

module _ (c : List ℕ) (l : Layout) (d : List ℕ) where
  -- the answer by whether 41 refuses, and by whether there are too few places
  answer : Bool → Bool → Result ℕ Fault
  answer bad short = unless (refuse_if bad (refusal 41 0) (refuse_if short (refusal 15 0) none)) (Ok (length (image_bytes c l d))) Err

  answer_is : (places : ℕ) → write_answer c l d places ≡ answer (bad_layout l (length c) (length d)) (ltb places (length (image_bytes c l d)))
  unfolding write_answer write_fault answer
  answer_is places = refl

  -- no image fits into no places
  some : ltb 0 (length (image_bytes c l d)) ≡ true
  unfolding image_bytes header_bytes
  some = lt-ltb 0 (length (image_bytes c l d)) (omega arith)

  none_by : (bad short : Bool) (places : ℕ) → ltb places 1 ≡ true → answer bad true ≡ with_length places (answer bad short)
  unfolding answer refuse_if
  none_by true short places e = refl
  none_by false true places e = refl
  none_by false false places e = sym (simp e)

  none_lent : (places n : ℕ) → ltb places 1 ≡ true → write_answer c l d 0 ≡ with_length places (write_answer c l d n)
  none_lent places n e =
      answer_is 0 ∙ ap (answer (bad_layout l (length c) (length d))) some
      ∙ none_by (bad_layout l (length c) (length d)) (ltb n (length (image_bytes c l d))) places e ∙ sym (ap (with_length places) (answer_is n))

  answer_by : (y : Bool) (places n : ℕ) → ltb places 1 ≡ y → write_answer c l d (cond y 0 n) ≡ with_length places (write_answer c l d n)
  answer_by true places n e = none_lent places n e
  answer_by false places n e = all_lent places (write_answer c l d n) e

  -- what writing into the first p places answers, said of the whole image
  module _ (old : List ℕ) (places p : ℕ) (e : p ≡ cond (ltb places 1) 0 (length old)) (h : p ≤ length old) where
    pub lent_given : {w : Result ℕ Fault} → w ≡ write_answer c l d (length (take p old)) → within places (of_written w) ≡ of_written (write_to c l d (length old) places)
    lent_given said =
        ap (λ (w : Result ℕ Fault). within places (of_written w))
        (said ∙ ap (write_answer c l d) (length-take-le p old h ∙ e) ∙ answer_by (ltb places 1) places (length old) refl)
        ∙ given places (write_answer c l d (length old))
