-- Parts of lists: how long they are, and when two are the same.
use Prim.Native.Nat.{ℕ, ◌+◌, ◌-◌, ◌<◌, ◌≤◌}
use mathlib.Core.Path.{◌≡◌, sym, ap, ◌∙◌}
use mathlib.Core.List.{List}
use native.Mathlib.Omega.{arith}
use lib.ListN.{length, get_or, take, drop, length-take, length-drop}
use lib.Seq.{get_or-take, get_or-drop, ext_get_or, length-take-le}
use Rattle.copies.specs.Copying.{part}

-- A part that lies in the list is as long as it is asked for.
pub part_length : (l : List ℕ) (start n : ℕ) → start + n ≤ length l → length (part l start n) ≡ n
part_length l start n h = let rest = length-drop start l in length-take-le n (drop start l) (omega arith)

-- Two parts of n elements are the same if their elements are.
pub part_same : (n : ℕ) (p q : List ℕ) (s r : ℕ) → s + n ≤ length p → r + n ≤ length q
    → ((j : ℕ) → j < n → get_or p (s + j) 0 ≡ get_or q (r + j) 0) → part p s n ≡ part q r n
part_same n p q s r room space same =
    ext_get_or 0 (take n (drop s p)) (take n (drop r q)) (simp (length-take, length-drop) (omega arith)) (λ j l.
    let m : j < n = omega (arith, simp length-take at l) in
    rw (get_or-take n (drop s p) j 0, get_or-take n (drop r q) j 0, get_or-drop s p j 0, get_or-drop r q j 0) (same j m))

-- Two parts that are the same at the same place have the same elements.
pub part_agree : (n : ℕ) (p q : List ℕ) (s : ℕ) → part p s n ≡ part q s n → (j : ℕ) → s ≤ j → j < s + n → get_or p j 0 ≡ get_or q j 0
part_agree n p q s e j l m =
    let below : j - s < n = omega arith in
    let there : s + (j - s) ≡ j = omega arith in
    rw there at (sym (at p below) ∙ ap (λ (x : List ℕ). get_or x (j - s) 0) e ∙ at q below)
  where
    at : (x : List ℕ) → j - s < n → get_or (part x s n) (j - s) 0 ≡ get_or x (s + (j - s)) 0
    at x h = get_or-take n (drop s x) (j - s) 0 h ∙ get_or-drop s x (j - s) 0
