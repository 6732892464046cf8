-- Stretches of a list: found behind an offset, within another stretch, and joined again.
use Prim.Native.Nat.{ℕ, zero, suc, ◌+◌, ◌*◌, ◌<◌, ◌≤◌}
use mathlib.Core.Path.{◌≡◌, refl, sym, ap, ap₂, ◌∙◌}
use mathlib.Core.List.{List, ◌++◌}
use native.Mathlib.Nat.{add_assoc, add-mul, mul_assoc}
use native.Mathlib.Omega.{arith}
use lib.ListN.{length, take, drop, get_or, length-drop, take-append-drop}
use lib.Seq.{take-append-le, drop-append-le, get_or-drop, drop-drop, length-take-le, take-add}
use Rattle.dsk_write.specs.Images.{joined_from}

-- ---- behind an offset

pub byte_behind : (b : List ℕ) (e i : ℕ) {x : List ℕ} → drop e b ≡ x → get_or b (e + i) 0 ≡ get_or x i 0
byte_behind b e i h = sym (get_or-drop e b i 0) ∙ ap (λ (y : List ℕ). get_or y i 0) h

pub drop_behind : (b : List ℕ) (e i : ℕ) {x : List ℕ} → drop e b ≡ x → drop (e + i) b ≡ drop i x
drop_behind b e i h = sym (drop-drop i e b) ∙ ap (drop i) h

-- ---- within another stretch

-- of the first of two lists
pub front : (p q : List ℕ) (m n : ℕ) → m + n ≤ length p → take n (drop m (p ++ q)) ≡ take n (drop m p)
front p q m n h =
    let a : m ≤ length p = omega arith in
    let l = length-drop m p in
    let b : n ≤ length (drop m p) = omega arith in
    ap (take n) (drop-append-le m p q a) ∙ take-append-le n (drop m p) q b

-- of a stretch from the start on
pub within : (y : List ℕ) (size m n : ℕ) → m + n ≤ size → size ≤ length y → take n (drop m (take size y)) ≡ take n (drop m y)
within y size m n h k =
    let l = length-take-le size y k in
    sym (front (take size y) (drop size y) m n (omega arith)) ∙ ap (λ (x : List ℕ). take n (drop m x)) (take-append-drop size y)

-- where sector k of block i starts among all sectors
pub sector_start : (i c size k : ℕ) → i * (c * size) + k * size ≡ (i * c + k) * size
sector_start i c size k = let e = add-mul (i * c) k size in let f = mul_assoc i c size in omega arith

-- ---- joined again

-- parts that are the same, joined
pub joined_same : (f g : ℕ → List ℕ) (i n : ℕ) → ((k : ℕ) → k < i + n → f k ≡ g k) → joined_from f i n ≡ joined_from g i n
unfolding joined_from
joined_same f g i zero h = refl
joined_same f g i (suc n) h = ap₂ ◌++◌ (h i (omega arith)) (joined_same f g (i + 1) n (λ k l. h k (omega arith)))

-- n stretches of equal size, one behind the other, are one stretch
pub stretches : (d : List ℕ) (size a i n : ℕ) → joined_from (λ k. take size (drop ((a + k) * size) d)) i n ≡ take (n * size) (drop ((a + i) * size) d)
unfolding joined_from
stretches d size a i zero = let e : 0 * size ≡ 0 = omega arith in ap (λ (m : ℕ). take m (drop ((a + i) * size) d)) (sym e)
stretches d size a i (suc n) =
    let here = drop ((a + i) * size) d in
    let e : (a + (i + 1)) * size ≡ (a + i) * size + size = omega (arith, add-mul (a + i) 1 size, ap (λ (m : ℕ). m * size) (sym (add_assoc a i 1))) in
    let m : suc n * size ≡ size + n * size = omega (arith, add-mul n 1 size) in
    ap (λ (r : List ℕ). take size here ++ r) (stretches d size a (i + 1) n ∙ ap (λ (j : ℕ). take (n * size) (drop j d)) e ∙ sym (ap (take (n * size)) (drop-drop size ((a + i) * size) d)))
    ∙ sym (take-add size (n * size) here) ∙ ap (λ (j : ℕ). take j here) (sym m)
