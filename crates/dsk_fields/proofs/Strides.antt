-- Where the blocks lie, one after the other, and products that nothing wraps in.
use Prim.Native.Nat.{ℕ, ◌+◌, ◌*◌, ◌<◌, ◌≤◌}
use mathlib.Core.Path.{◌≡◌, ap}
use mathlib.Core.List.{List}
use native.Mathlib.Nat.{add-mul, mul-le-mul, mul-le-mul_right}
use native.Mathlib.Omega.{arith}
use lib.ListN.{length}
use Rattle.dsk_fields.specs.Fields.{info_size, tracks, sides, track_size, block_of, image_size}

pub stride : {i n : ℕ} (s : ℕ) → i < n → i * s + s ≤ n * s
stride {i} {n} s h =
    let m = mul-le-mul_right {m = i + 1} {n = n} s (omega arith) in
    let e = add-mul i 1 s in
    omega arith

-- the index of side s of track t is below the number of blocks
pub inside : {t s : ℕ} (T S : ℕ) → t < T → s < S → t * S + s < T * S
inside T S h k = let m = stride S h in omega arith

-- ---- the parts of T tracks of S sides, each of so many bytes, one after the other

module _ (S size : ℕ) where
  -- the part of track t and side s ends at or below the end of the last
  pub part_ends : {t s : ℕ} (T : ℕ) → t < T → s < S → (t * S + s) * size + size ≤ T * S * size
  part_ends T h k = stride size (inside T S h k)

  -- the next side's part starts where this one ends, and the next track's as far on as its sides take
  pub side_after : (t s : ℕ) → info_size + (t * S + s) * size + size ≡ info_size + (t * S + (s + 1)) * size
  side_after t s =
      let e = add-mul (t * S + s) 1 size in
      let f : t * S + (s + 1) ≡ t * S + s + 1 = omega arith in
      let g = ap (λ (i : ℕ). i * size) f in
      omega arith

  pub track_after : (t : ℕ) → info_size + (t * S + 0) * size + S * size ≡ info_size + ((t + 1) * S + 0) * size
  track_after t =
      let e = add-mul (t * S + 0) S size in
      let f = add-mul t 1 S in
      let g : (t + 1) * S + 0 ≡ t * S + 0 + S = omega arith in
      let h = ap (λ (i : ℕ). i * size) g in
      omega arith

  pub first_part : info_size ≡ info_size + (0 * S + 0) * size
  first_part =
      let e : 0 * S + 0 ≡ 0 = omega arith in
      let f = ap (λ (i : ℕ). i * size) e in
      omega arith

-- ---- the blocks of an image

pub block_ends : (b : List ℕ) {t s : ℕ} → image_size b ≤ length b → t < tracks b → s < sides b → block_of b t s + track_size b ≤ length b
block_ends b whole h k = let m = part_ends (sides b) (track_size b) (tracks b) h k in omega arith

-- two bytes
pub bytes_product : {a b : ℕ} → a < 256 → b < 256 → a * b ≤ 65_025
bytes_product {a} {b} h k = mul-le-mul {n₁ = a} {m₁ = b} {n₂ = 255} {m₂ = 255} (omega arith) (omega arith)
