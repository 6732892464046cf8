-- A list that is written from a buffer's start, an element or a run of elements at a time.
use mathlib.Core.Path.{◌≡◌, refl, sym, ap, ap₂, ◌∙◌, subst}
use Prim.Native.Nat.{ℕ, suc, ◌+◌, ◌-◌, ◌<◌, ◌≤◌}
use native.Mathlib.Omega.{arith}
use native.Mathlib.Numerals.{add-one}
use mathlib.Core.List.{List, [], ◌∷◌, ◌++◌, append-nil, append_assoc}
use lib.ListN.{length, take, drop, set, length-set, length-append, take-append-drop}
use borrow.Rule.Slice.PartMut.{put_mid, Post-is}
use lib.Seq.{sets, sets-eq, length-take-le, take-suc-set, drop-set-lt, append_snoc, drop-drop}

-- Of `whole` the first n elements stand in d, `rest` is still to be written, and from n on d is what it was, d₀.
pub record Wrote (d₀ d : List ℕ) (n : ℕ) (rest whole : List ℕ) : Type 0 where
  pub head : take n d ++ rest ≡ whole
  pub tail : drop n d ≡ drop n d₀
  pub same : length d ≡ length d₀
  pub within : n ≤ length d

pub start : (d whole : List ℕ) → Wrote d d 0 whole whole
start d whole = record { head = refl; tail = refl; same = refl; within = omega arith }

-- what is still to be written, said otherwise
pub retell : {d₀ d : List ℕ} {n : ℕ} {rest rest' whole : List ℕ} → rest ≡ rest' → Wrote d₀ d n rest whole → Wrote d₀ d n rest' whole
retell {d₀} {d} {n} {rest} {rest'} {whole} e h = subst (λ (r : List ℕ). Wrote d₀ d n r whole) e h

-- the buffer and the number written, said otherwise
pub moved : {d₀ d d' : List ℕ} {n n' : ℕ} {rest whole : List ℕ} → d ≡ d' → n ≡ n' → Wrote d₀ d n rest whole → Wrote d₀ d' n' rest whole
moved {d₀} {d} {d'} {n} {n'} {rest} {whole} e f h =
    subst (λ (m : ℕ). Wrote d₀ d' m rest whole) f (subst (λ (x : List ℕ). Wrote d₀ x n rest whole) e h)

module _ {d₀ d : List ℕ} {n : ℕ} {rest whole : List ℕ} where
  pub count : Wrote d₀ d n rest whole → n + length rest ≡ length whole
  count h =
      let e = simp length-append at (ap length h.head) in
      let l = length-take-le n d h.within in
      omega arith

-- one element more
module _ {d₀ d : List ℕ} {n v : ℕ} {rest whole : List ℕ} (room : length whole ≤ length d₀) (h : Wrote d₀ d n (v ∷ rest) whole) where
  pub below : n < length d
  below =
      let e = count h in
      let s = h.same in
      omega arith

  pub put : Wrote d₀ (set d n v) (n + 1) rest whole
  put =
      let b = below in
      record {
        head = rw (add-one, take-suc-set) (append_snoc (take n d) v rest ∙ h.head);
        tail = rw add-one (drop-set-lt (suc n) d n v (omega arith) ∙ rw add-one at next);
        same = length-set d n v ∙ h.same;
        within = simp length-set (omega arith);
      }
    where
      next : drop (n + 1) d ≡ drop (n + 1) d₀
      next = sym (drop-drop 1 n d) ∙ ap (drop 1) h.tail ∙ drop-drop 1 n d₀

-- a run of elements more
pub below_run : (vs rest : List ℕ) {d₀ d : List ℕ} {n : ℕ} {whole : List ℕ} → length whole ≤ length d₀
    → Wrote d₀ d n (vs ++ rest) whole → n + length vs ≤ length d
below_run vs rest {d₀} {d} {n} {whole} room h =
    let e = simp length-append at (count h) in
    let s = h.same in
    omega arith

pub put_run : (vs : List ℕ) {d₀ d : List ℕ} {n : ℕ} {rest whole : List ℕ} → length whole ≤ length d₀
    → Wrote d₀ d n (vs ++ rest) whole → Wrote d₀ (sets d n vs) (n + length vs) rest whole
put_run [] {d₀} {d} {n} {rest} {whole} room h =
    let e : n ≡ n + 0 = omega arith in
    moved refl e h
put_run (v ∷ vs) {d₀} {d} {n} {rest} {whole} room h =
    let e : n + 1 + length vs ≡ n + suc (length vs) = omega arith in
    let f : n + 1 ≡ suc n = omega arith in
    moved (ap (λ (k : ℕ). sets (set d n v) k vs) f) e (put_run vs room (put room h))

-- the same, as a part of the list that is lent and left as `part`
put_part : (d vs part : List ℕ) (n m : ℕ) → n + length vs ≡ m → m ≤ length d → part ≡ vs → put_mid n (m - n) d part ≡ sets d n vs
put_part d vs part n m end room same =
    let fit : n + length vs ≤ length d = omega arith in
    ap₂ (λ (p r : List ℕ). take n d ++ (p ++ r)) same (Post-is n m d (omega arith) ∙ ap (λ (k : ℕ). drop k d) (sym end))
    ∙ sym (append_assoc (take n d) vs (drop (n + length vs) d))
    ∙ sym (sets-eq vs d n fit)

pub put_lent : (vs : List ℕ) {d₀ d part : List ℕ} {n m : ℕ} {rest whole : List ℕ} → length whole ≤ length d₀
    → Wrote d₀ d n (vs ++ rest) whole → n + length vs ≡ m → part ≡ vs → Wrote d₀ (put_mid n (m - n) d part) m rest whole
put_lent vs {d₀} {d} {part} {n} {m} {rest} {whole} room h end same =
    let b = below_run vs rest room h in
    moved (sym (put_part d vs part n m end (omega arith) same)) end (put_run vs room h)

-- all of it is written
module _ {d₀ d : List ℕ} {n : ℕ} {whole : List ℕ} (h : Wrote d₀ d n [] whole) where
  pub filled : n ≡ length whole
  filled =
      let e = count h in
      omega arith

  pub whole_is : d ≡ whole ++ drop (length whole) d₀
  whole_is =
      sym (take-append-drop n d)
      ∙ ap₂ ◌++◌ (sym (append-nil (take n d)) ∙ h.head) h.tail
      ∙ ap (λ (k : ℕ). whole ++ drop k d₀) filled
