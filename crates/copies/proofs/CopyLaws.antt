-- Copying value by value, the loop's invariant and its steps; and values that stand in a part of a buffer.
use Prim.Native.Nat.{ℕ, suc, ◌+◌, ◌-◌, ◌<◌, ◌≤◌}
use mathlib.Core.Path.{◌≡◌, refl, sym, ap, ◌∙◌}
use mathlib.Core.List.{List, ◌∷◌, ◌++◌, append_assoc}
use mathlib.Core.Bool.{true, false}
use native.Mathlib.Numerals.{add-one}
use native.Mathlib.Omega.{arith}
use lib.ListN.{length, get_or, set, take, drop, drop_of_length-le, length-set}
use lib.Seq.{sets, sets-eq, drop-cons}
use borrow.Author.Tests.{lt-leb, le-leb}
use borrow.Rule.Slice.PartMut.{put_mid, Post-is}
use Rattle.copies.specs.Copying.{fits_at, copied_at}

-- The first j of the values stand in `out` from `at` on, and storing the others makes what is to be made of `old`, where they all fit.
pub record Copying {A : Type 0} (old vs : List A) (at : ℕ) (out : List A) (j : ℕ) : Type 0 where
  pub room : at + length vs ≤ length old
  pub reached : j ≤ length vs
  pub same : length out ≡ length old
  pub left : sets out (at + j) (drop j vs) ≡ sets old at vs

module _ {A : Type 0} where
  pub copy_start : (old vs : List A) (at : ℕ) → at + length vs ≤ length old → Copying old vs at old 0
  copy_start old vs at h =
      let e : at + 0 ≡ at = omega arith in
      record { room = h; reached = omega arith; same = refl; left = ap (λ (i : ℕ). sets old i vs) e }

  pub copy_next : {old vs out : List A} {at j : ℕ} (d : A) → Copying old vs at out j → j < length vs
      → Copying old vs at (set out (at + j) (get_or vs j d)) (j + 1)
  copy_next {old} {vs} {out} {at} {j} d p h =
      let r : drop j vs ≡ get_or vs j d ∷ drop (j + 1) vs = rw (add-one, drop-cons vs j d) in
      let e : at + (j + 1) ≡ suc (at + j) = omega arith in
      record {
        room = p.room;
        reached = omega arith;
        same = length-set out (at + j) (get_or vs j d) ∙ p.same;
        left = rw e (sym (ap (sets out (at + j)) r) ∙ p.left);
      }

  -- all values are copied
  pub copied_all : (old vs : List A) {out : List A} {at j : ℕ} → Copying old vs at out j → length vs ≤ j
      → (true ≡ fits_at old at vs) × (out ≡ copied_at old at vs)
  copied_all old vs {out} {at} {j} p h =
      let t = le-leb (at + length vs) (length old) p.room in
      (sym t, sym (ap (sets out (at + j)) (drop_of_length-le vs h)) ∙ p.left ∙ sym (simp t))

  -- they do not fit
  pub uncopied : (old vs : List A) (at : ℕ) → length old < at + length vs → (false ≡ fits_at old at vs) × (old ≡ copied_at old at vs)
  uncopied old vs at h = let t = lt-leb (at + length vs) (length old) h in (sym t, sym (simp t))

  -- ---- a part of the buffer, and those who copy

  -- where the values fit
  pub copy_fits : (old vs : List A) (at : ℕ) → at + length vs ≤ length old → copied_at old at vs ≡ sets old at vs
  copy_fits old vs at h = simp (le-leb (at + length vs) (length old) h)

  -- the part of the buffer that is as long as the values now holds them
  pub copied : (old vs part : List A) (at n : ℕ) → n ≡ length vs → at + length vs ≤ length old → part ≡ vs
      → put_mid at (at + n - at) old part ≡ copied_at old at vs
  copied old vs part at n size room same =
      let whole : at + n ≡ at + length vs = ap (λ (k : ℕ). at + k) size in
      ap (λ (p : List A). put_mid at (at + n - at) old p) same
      ∙ ap (λ (rest : List A). take at old ++ (vs ++ rest)) (Post-is at (at + n) old (omega arith) ∙ ap (λ (k : ℕ). drop k old) whole)
      ∙ sym (append_assoc (take at old) vs (drop (at + length vs) old))
      ∙ sym (sets-eq vs old at room)
      ∙ sym (copy_fits old vs at room)
