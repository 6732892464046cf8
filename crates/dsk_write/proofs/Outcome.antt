-- What writing answers and leaves in each of its cases.
use Prim.Native.Nat.{ℕ, ◌+◌, ◌<◌, ◌≤◌}
use mathlib.Core.Path.{◌≡◌, refl, sym, ap, ◌∙◌}
use mathlib.Core.List.{List, ◌++◌}
use mathlib.Core.Bool.{false}
use native.Mathlib.Omega.{arith}
use lib.ListN.{length, drop}
use lib.Seq.{sets}
use borrow.Author.Tests.{lt-ltb, le-ltb}
use Rattle.std.specs.Prelude.{Ok, Err}
use Rattle.refusals.specs.Refusals.{Fault, none, refusal}
use Rattle.refusals.proofs.Chain.{refuse_here, refuse_next}
use Rattle.refusals.proofs.Finding.{is_refusal}
use Rattle.refusals.proofs.Answers.{unless_refused, unless_found}
use Rattle.dsk_fields.specs.Fields.{info_size}
use Rattle.dsk_layout.specs.declared.Layout.{Layout}
use Rattle.dsk_layout.specs.Layouts.{image_length, bad_layout, layout_answer}
use Rattle.dsk_layout.proofs.LayoutLaws.{writable, refused_is}
use Rattle.dsk_write.specs.Images.{joined_from, header_bytes, track_bytes, image_bytes}
use Rattle.dsk_write.specs.Writing.{write_fault, write_answer}
use Rattle.dsk_write.proofs.Stores.{then_put, at_start}
use Rattle.dsk_write.proofs.Sizes.{header_length, image_length_lem}

module _ (c : List ℕ) (l : Layout) (d : List ℕ) (places : ℕ) where
  pub gives_41 : {f : Fault} → Err f ≡ layout_answer l (length c) (length d) → Err f ≡ write_answer c l d places
  unfolding write_answer write_fault
  gives_41 e =
      let r = refused_is l (length c) (length d) e in
      unless_refused (write_fault c l d places) _ Err (refuse_here _ _ _ r.1 r.0) (is_refusal 40 r.0)

  module _ (good : bad_layout l (length c) (length d) ≡ false) where
    size : length (image_bytes c l d) ≡ image_length l
    size = image_length_lem c l d (writable l (length c) (length d) good)

    pub gives_15 : {f : Fault} → f ≡ refusal 15 0 → places < image_length l → Err f ≡ write_answer c l d places
    unfolding write_answer write_fault
    gives_15 e h =
        let n = size in
        let short : places < length (image_bytes c l d) = omega arith in
        unless_refused (write_fault c l d places) _ Err
        (refuse_next _ _ _ good (refuse_here _ _ _ (lt-ltb places (length (image_bytes c l d)) short) e))
        (is_refusal 14 e)

    passes_all : image_length l ≤ places → none ≡ write_fault c l d places
    unfolding write_fault
    passes_all h =
        let n = size in
        let room : length (image_bytes c l d) ≤ places = omega arith in
        refuse_next _ _ _ good (refuse_next _ _ _ (le-ltb places (length (image_bytes c l d)) room) refl)

    pub gives_length : {n : ℕ} → n ≡ image_length l → image_length l ≤ places → Ok n ≡ write_answer c l d places
    unfolding write_answer
    gives_length e h =
        unless_found (write_fault c l d places) _ Err (ap (λ (f : Fault). f.number) (sym (passes_all h)))
        (ap Ok (e ∙ sym size))

-- the header and then the blocks are the image, from the start on
pub image_put : (c : List ℕ) (l : Layout) (d old : List ℕ) {e f : List ℕ} → bad_layout l (length c) (length d) ≡ false
    → image_length l ≤ length old → e ≡ sets old 0 (header_bytes c l) → f ≡ sets e info_size (joined_from (track_bytes l d) 0 l.tracks)
    → f ≡ image_bytes c l d ++ drop (length (image_bytes c l d)) old
unfolding image_bytes
image_put c l d old good room pe pf =
    let w = writable l (length c) (length d) good in
    let n : length (image_bytes c l d) ≡ image_length l = image_length_lem c l d w in
    let h = header_length c l w.creator in
    let behind : 0 + length (header_bytes c l) ≡ info_size = omega arith in
    then_put old 0 (header_bytes c l) info_size (joined_from (track_bytes l d) 0 l.tracks) pe pf behind
    ∙ at_start old (image_bytes c l d) (omega arith)
