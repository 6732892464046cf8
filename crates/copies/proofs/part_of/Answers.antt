-- What starts past the end is empty, what runs past it is the rest, and any other part lies within.
use mathlib.Core.Path.{◌≡◌, sym, ap, ◌∙◌}
use Prim.Native.Nat.{ℕ, ◌+◌, ◌-◌, ◌≤◌}
use native.Mathlib.Nat.{zero-add}
use native.Mathlib.Omega.{arith}
use lib.ListN.{length, take, drop, drop_of_length-le, length-drop}
use lib.Seq.{take-nil, take_all}
use borrow.Author.Rules.{rules}
use borrow.Author.Tests.{le-leb, lt-leb}
use Rattle.copies.specs.Copying.{part_start}
use Rattle.copies.proofs.part_of.Goals as goal

pub returns-then-size-start : goal.returns-then-size-start
returns-then-size-start c =
    let a = c.args in
    let w = a.whole in
    let past = c.if-size-start.true in
    let beyond : length w.now ≤ a.start = omega arith in
    let zero : 0 ≡ part_start w.now a.start = sym (simp (lt-leb a.start (length w.now) past)) in record {
      result_value = sym (ap (take a.n) (drop_of_length-le w.now beyond) ∙ take-nil a.n);
      ref_ptr_value = ap (λ (n : ℕ). (w.ref_ptr.0, n)) (sym (zero-add w.ref_ptr.1)) ∙ ap (λ (s : ℕ). (w.ref_ptr.0, s + w.ref_ptr.1)) zero;
    }

pub returns-then-size-start-2 : goal.returns-then-size-start-2
returns-then-size-start-2 c =
    let started : let a = c.args in a.start ≡ part_start a.whole.now a.start = let a = c.args in sym (simp (le-leb a.start (length a.whole.now) (search rules))) in
    let a = c.args in
    let w = a.whole in
    let l = drop a.start w.now in
    let size = length-drop a.start w.now in
    let all : length l ≤ length w.now - a.start = omega arith in
    let more : length l ≤ a.n = omega arith in record {
      result_value = take_all _ l all ∙ sym (take_all a.n l more);
      ref_ptr_value = ap (λ (s : ℕ). (w.ref_ptr.0, s + w.ref_ptr.1)) (started);
    }

pub returns : goal.returns
returns c =
    let started : let a = c.args in a.start ≡ part_start a.whole.now a.start = let a = c.args in sym (simp (le-leb a.start (length a.whole.now) (search rules))) in
    let a = c.args in
    let w = a.whole in
    let l = drop a.start w.now in
    let size : a.start + a.n - a.start ≡ a.n = omega arith in record {
      result_value = ap (λ (k : ℕ). take k l) size;
      ref_ptr_value = ap (λ (s : ℕ). (w.ref_ptr.0, s + w.ref_ptr.1)) (started);
    }
