-- Parts of equal size, one after the other: how long they are together, and where each of them stands.
use Prim.Native.Nat.{ℕ, zero, suc, ◌+◌, ◌*◌, ◌<◌, ◌≤◌}
use mathlib.Core.Path.{◌≡◌, ap, ◌∙◌}
use mathlib.Core.List.{List, ◌++◌, append_assoc}
use native.Mathlib.Nat.{add-mul}
use native.Mathlib.Omega.{arith}
use lib.ListN.{length, drop, length-append}
use lib.Seq.{drop-append-add}
use Rattle.dsk_write.specs.Images.{joined_from}

module _ (part : ℕ → List ℕ) (size limit : ℕ) (sized : (i : ℕ) → i < limit → length (part i) ≡ size) where
  one_more : (n : ℕ) → size + n * size ≡ suc n * size
  one_more n = omega (arith, add-mul n 1 size)

  pub joined_length : (i n : ℕ) → i + n ≤ limit → length (joined_from part i n) ≡ n * size
  unfolding joined_from
  joined_length i zero h = let e : 0 ≡ 0 * size = omega arith in e
  joined_length i (suc n) h =
      let a = length-append (part i) (joined_from part (i + 1) n) in
      let b = sized i (omega arith) in
      let r = joined_length (i + 1) n (omega arith) in
      let m = one_more n in
      omega arith

  -- part k of those from i on stands k sizes on
  pub part_at : (k i n : ℕ) (rest : List ℕ) → k < n → i + n ≤ limit
      → (more : List ℕ) × (drop (k * size) (joined_from part i n ++ rest) ≡ part (i + k) ++ more)
  unfolding joined_from
  part_at k i zero rest h l = absurd (omega arith)
  part_at zero i (suc n) rest h l =
      let e : 0 * size ≡ 0 = omega arith in
      let f : i ≡ i + 0 = omega arith in (
        joined_from part (i + 1) n ++ rest,
        ap (λ (x : ℕ). drop x (joined_from part i (suc n) ++ rest)) e ∙ append_assoc (part i) (joined_from part (i + 1) n) rest
            ∙ ap (λ (x : ℕ). part x ++ (joined_from part (i + 1) n ++ rest)) f,
      )
  part_at (suc k) i (suc n) rest h l =
      let r = part_at k (i + 1) n rest (omega arith) (omega arith) in
      let s = sized i (omega arith) in
      let m = one_more k in
      let past : suc k * size ≡ length (part i) + k * size = omega arith in
      let f : i + 1 + k ≡ i + suc k = omega arith in (
        r.0,
        ap (drop (suc k * size)) (append_assoc (part i) (joined_from part (i + 1) n) rest)
            ∙ ap (λ (x : ℕ). drop x (part i ++ (joined_from part (i + 1) n ++ rest))) past
            ∙ drop-append-add (part i) (joined_from part (i + 1) n ++ rest) (k * size)
            ∙ r.1 ∙ ap (λ (x : ℕ). part x ++ r.0) f,
      )
