-- Laws of numbers in bytes, each over the width n, of stores, and of what std reads and puts. A store is a run of single stores, so each
-- law of a store goes by induction over the bytes stored; a number of n + 1 bytes is a byte and a number of n bytes, so each law of
-- numbers goes over n.
use Rattle.std.proofs.Common.{◌≡◌, ℕ, zero, suc, ◌+◌, ◌-◌, ◌*◌, ◌/◌, ◌%◌, ◌^◌, ◌<◌, ◌≤◌, Bool, true, false, cond, ltb, ◌⊎◌, List, [], ◌∷◌, ◌++◌, length, take, drop, set, ℤ, pos, negsuc, sym, refl, ap, ◌∙◌, inl, inr, not-suc-le-zero, add-zero, mod-eq_of_lt, pow-suc, div-one, add-one, arith, length-set, get_or-set_other, get_or-set_same, drop-set-lt, to_z-of_z, w64, to_z, of_z}
use native.Mathlib.Nat.{pow-succ', one-le-pow, div-div-eq-div-mul}
use native.Mathlib.Decide.{ℕ_discrete}
use mir.Val.{sel}
use mir.Facts.{of_z-to_z, sfits_to_z, Fits-of_z}
use lib.Arith.{mod-mul}
use Rattle.std.specs.Prelude.{EachIndex}
use Rattle.std.specs.Int.{from_le_bytes, from_be_bytes, w16, w32}
use lib.Signed.{mag}
use lib.Seq.{sets, sets-eq, take-set-le}
use borrow.Author.Tests.{le-leb}
use borrow.Rule.Slice.PartMut.{put_mid, Post-is}
use mathlib.Core.List.{append_assoc}
use Rattle.std.specs.Int.{bytes_low_first, to_le_bytes}
use Rattle.octets.specs.Numbers.{byte_at, Octets, le_at, le16_at, le32_at, le64_at, be16_at, le_bytes, be16_bytes, signed64, unsigned64, put_at}

-- ---- stores

-- The n bytes from j on and the m bytes from i on have no byte in common.
abbrev pub Apart : ℕ → ℕ → ℕ → ℕ → Type 0
Apart j n i m = (j + n ≤ i) ⊎ (i + m ≤ j)

-- A store elsewhere leaves a byte as it is.
pub byte_apart : (vs b : List ℕ) (i j : ℕ) → Apart j 1 i (length vs) → byte_at (sets b i vs) j ≡ byte_at b j
byte_apart [] b i j h = refl
byte_apart (v ∷ vs) b i j (inl h) =
    byte_apart vs (set b i v) (suc i) j (inl (omega arith)) ∙ get_or-set_other b i j v 0 (omega arith)
byte_apart (v ∷ vs) b i j (inr h) =
    byte_apart vs (set b i v) (suc i) j (inr (omega arith)) ∙ get_or-set_other b i j v 0 (omega arith)

-- In a store stand the bytes stored.
pub byte_inside : (vs b : List ℕ) (i j : ℕ) → i + length vs ≤ length b → j < length vs → byte_at (sets b i vs) (i + j) ≡ byte_at vs j
byte_inside [] b i j k h = absurd (not-suc-le-zero h)
byte_inside (v ∷ vs) b i zero k h =
    rw (add-zero i)
    (byte_apart vs (set b i v) (suc i) i (inl (omega arith)) ∙ get_or-set_same b i v 0 (omega arith))
byte_inside (v ∷ vs) b i (suc j) k h =
    let room : suc i + length vs ≤ length (set b i v) = rw (length-set b i v) (omega arith) in
    let e : i + suc j ≡ suc i + j = omega arith in
    rw e (byte_inside vs (set b i v) (suc i) j room (omega arith))

-- What lies behind a store, and what lies before it, is as it was.
pub drop_sets : (vs b : List ℕ) (i n : ℕ) → i + length vs ≤ n → drop n (sets b i vs) ≡ drop n b
drop_sets [] b i n h = refl
drop_sets (v ∷ vs) b i n h =
    drop_sets vs (set b i v) (suc i) n (omega arith) ∙ drop-set-lt n b i v (omega arith)

pub take_sets : (vs b : List ℕ) (i n : ℕ) → n ≤ i → take n (sets b i vs) ≡ take n b
take_sets [] b i n h = refl
take_sets (v ∷ vs) b i n h =
    take_sets vs (set b i v) (suc i) n (omega arith) ∙ take-set-le n b i v (omega arith)

-- Two stores, the second directly behind the first, are one.
pub sets_append : (us vs b : List ℕ) (i : ℕ) → sets (sets b i us) (i + length us) vs ≡ sets b i (us ++ vs)
sets_append [] vs b i = rw (add-zero i)
sets_append (u ∷ us) vs b i =
    let e : i + suc (length us) ≡ suc i + length us = omega arith in
    rw e (sets_append us vs (set b i u) (suc i))

-- ---- two's complement

-- The machine's own reading of 64 bits as a signed number, and back.
pub signed_is : (n : ℕ) → signed64 n ≡ to_z w64 n
unfolding signed64
signed_is n = go (ltb n 9_223_372_036_854_775_808)
  where
    go : (x : Bool) → cond x (pos n) (negsuc (18_446_744_073_709_551_615 - n)) ≡ sel x (pos n) (negsuc (2 ^ 64 - suc n))
    go true = refl
    go false = ap negsuc (omega arith)

-- ---- numbers read

-- The n bytes from i on are the same in both lists.
abbrev pub Agree : List ℕ → List ℕ → ℕ → ℕ → Type 0
Agree p b i n = (j : ℕ) → i ≤ j → j < i + n → byte_at p j ≡ byte_at b j

-- The same bytes give the same number.
pub le_same : (n : ℕ) (p b : List ℕ) (i : ℕ) → Agree p b i n → le_at n p i ≡ le_at n b i
unfolding le_at
le_same zero p b i h = refl
le_same (suc n) p b i h =
    cc (h i (omega arith) (omega arith), le_same n p b (suc i) (λ j l m. h j (omega arith) (omega arith)))

-- The same number has the same bytes.
pub le_agree : (n : ℕ) (p b : List ℕ) (i : ℕ) → Octets p → Octets b → le_at n p i ≡ le_at n b i → Agree p b i n
unfolding le_at
le_agree zero p b i f g e = λ j l m. absurd (omega arith)
le_agree (suc n) p b i f g e =
    let x = f i in
    let y = g i in
    let first : byte_at p i ≡ byte_at b i = omega arith in
    let rest : le_at n p (suc i) ≡ le_at n b (suc i) = omega arith in
    λ j l m. elim (ℕ_discrete j i) [
      | yes z ↦ rw z first
      | no z ↦ le_agree n p b (suc i) f g rest j (omega arith) (omega arith)
    ]

-- A store elsewhere leaves a number as it is.
pub le_apart : (n : ℕ) (vs b : List ℕ) (i j : ℕ) → Apart j n i (length vs) → le_at n (sets b i vs) j ≡ le_at n b j
le_apart n vs b i j (inl h) = le_same n _ b j (λ k l m. byte_apart vs b i k (inl (omega arith)))
le_apart n vs b i j (inr h) = le_same n _ b j (λ k l m. byte_apart vs b i k (inr (omega arith)))

-- A number of n bytes is below 256 ^ n.
pub le_bound : (n : ℕ) (b : List ℕ) (i : ℕ) → Octets b → le_at n b i < 256 ^ n
unfolding le_at
le_bound zero b i h = omega arith
le_bound (suc n) b i h = rw (pow-succ' 256 n) (omega (arith, h i, le_bound n b (suc i) h))

le_cons : (n x : ℕ) (b : List ℕ) (i : ℕ) → le_at n (x ∷ b) (suc i) ≡ le_at n b i
unfolding le_at
le_cons zero x b i = refl
le_cons (suc n) x b i = cc (le_cons n x b (suc i))

-- The bytes from i on, as a list of their own, make the number that stands there.
pub le_listed : (r b : List ℕ) (i : ℕ) → EachIndex r (λ k. byte_at r k ≡ byte_at b (i + k)) → le_at (length r) r 0 ≡ le_at (length r) b i
unfolding le_at
le_listed [] b i h = refl
le_listed (x ∷ r) b i h =
    let first : x ≡ byte_at b i = rw add-zero at (h 0 (omega arith)) in
    let rest = le_listed r b (suc i) (λ k l. let e : suc i + k ≡ i + suc k = omega arith in rw e (h (suc k) (omega arith))) in
    omega (arith, first, rest, le_cons (length r) x r 0)

-- The numbers that are read, each from the bytes from i on as a list of their own.
module _ (r b : List ℕ) (i : ℕ) (same : EachIndex r (λ k. byte_at r k ≡ byte_at b (i + k))) where
  pub le16_read : length r ≡ 2 → from_le_bytes w16 r ≡ le16_at b i
  unfolding le_at
  le16_read l = omega (arith, rw l at (le_listed r b i same))

  pub le32_read : length r ≡ 4 → from_le_bytes w32 r ≡ le32_at b i
  unfolding le_at
  le32_read l = omega (arith, rw l at (le_listed r b i same))

  pub le64_read : length r ≡ 8 → to_z w64 (from_le_bytes w64 r) ≡ le64_at b i
  unfolding le_at
  le64_read l =
      let e : from_le_bytes w64 r ≡ le_at 8 b i = omega (arith, rw l at (le_listed r b i same)) in
      ap (to_z w64) e ∙ sym (signed_is (le_at 8 b i))

  pub be16_read : length r ≡ 2 → from_be_bytes w16 r ≡ be16_at b i
  be16_read l =
      let upper : byte_at r 0 ≡ byte_at b i = rw add-zero at (same 0 (omega arith)) in
      let lower : byte_at r 1 ≡ byte_at b (suc i) = rw add-one at (same 1 (omega arith)) in
      omega (arith, upper, lower)

-- A number of four bytes, by the bytes as a program finds them.
pub le_four : (b : List ℕ) (i j k l : ℕ) → j ≡ i + 1 → k ≡ i + 2 → l ≡ i + 3
    → le_at 4 b i ≡ byte_at b i + 256 * byte_at b j + 65_536 * byte_at b k + 16_777_216 * byte_at b l
unfolding le_at
le_four b i j k l e f g =
    let e' : j ≡ suc i = omega arith in
    let f' : k ≡ suc (suc i) = omega arith in
    let g' : l ≡ suc (suc (suc i)) = omega arith in
    rw (e', f', g') (omega arith)

-- A number inside a store is read from the bytes stored.
pub le_inside : (n : ℕ) (vs b : List ℕ) (i j : ℕ) → i + length vs ≤ length b → j + n ≤ length vs → le_at n (sets b i vs) (i + j) ≡ le_at n vs j
unfolding le_at
le_inside zero vs b i j k h = refl
le_inside (suc n) vs b i j k h =
    let e : suc (i + j) ≡ i + suc j = omega arith in
    rw e (cc (byte_inside vs b i j k (omega arith), le_inside n vs b i (suc j) k (omega arith)))

-- ---- numbers put, and read back

pub le_length : (n v : ℕ) → length (le_bytes n v) ≡ n
unfolding le_bytes
le_length zero v = refl
le_length (suc n) v = ap suc (le_length n (v / 256))

-- The bytes of a number make its lower n bytes.
pub le_of_bytes : (n v : ℕ) → le_at n (le_bytes n v) 0 ≡ v % 256 ^ n
unfolding le_at le_bytes
le_of_bytes zero v = omega arith
le_of_bytes (suc n) v =
    let e : v % (256 ^ n * 256) ≡ (v / 256 % 256 ^ n) * 256 + v % 256 = mod-mul v (one-le-pow n 256 (omega arith)) (omega arith) in
    rw (pow-suc 256 n) (omega (arith, e, le_cons n (v % 256) (le_bytes n (v / 256)) 0, le_of_bytes n (v / 256)))

-- The n lower bytes of a number are those of what n bytes hold of it.
pub le_bytes_low : (n v : ℕ) → le_bytes n (v % 256 ^ n) ≡ le_bytes n v
unfolding le_bytes
le_bytes_low zero v = refl
le_bytes_low (suc n) v =
    let e : v % (256 ^ n * 256) ≡ (v / 256 % 256 ^ n) * 256 + v % 256 = mod-mul v (one-le-pow n 256 (omega arith)) (omega arith) in
    let low : v % (256 ^ n * 256) % 256 ≡ v % 256 = omega (arith, e) in
    let high : v % (256 ^ n * 256) / 256 ≡ v / 256 % 256 ^ n = omega (arith, e) in
    rw (pow-suc 256 n, low, high) (ap (◌∷◌ (v % 256)) (le_bytes_low n (v / 256)))

-- A number that was put is read back, up to what n bytes hold.
pub le_read_back : (n v : ℕ) (b : List ℕ) (i : ℕ) → i + n ≤ length b → le_at n (sets b i (le_bytes n v)) i ≡ v % 256 ^ n
le_read_back n v b i h =
    let l : length (le_bytes n v) ≡ n = le_length n v in
    rw add-zero at (le_inside n (le_bytes n v) b i 0 (omega arith) (omega arith)) ∙ le_of_bytes n v

-- A number that n bytes hold is read back.
pub le_read_same : (n v : ℕ) (b : List ℕ) (i : ℕ) → v < 256 ^ n → i + n ≤ length b → le_at n (sets b i (le_bytes n v)) i ≡ v
le_read_same n v b i f h = le_read_back n v b i h ∙ mod-eq_of_lt f

pub be_read_back : (v : ℕ) (b : List ℕ) (i : ℕ) → i + 2 ≤ length b → be16_at (sets b i (be16_bytes v)) i ≡ v
be_read_back v b i h =
    let e : i + 0 ≡ i = add-zero i in
    let f : i + 1 ≡ suc i = omega arith in
    let hi : byte_at (sets b i (be16_bytes v)) i ≡ v / 256 = rw e at (byte_inside (be16_bytes v) b i 0 h (omega arith)) in
    let lo : byte_at (sets b i (be16_bytes v)) (suc i) ≡ v % 256 = rw f at (byte_inside (be16_bytes v) b i 1 h (omega arith)) in
    omega arith

-- ---- bytes stay bytes

pub le_octets : (n v : ℕ) → Octets (le_bytes n v)
unfolding le_bytes
le_octets zero v i = omega arith
le_octets (suc n) v zero = omega arith
le_octets (suc n) v (suc i) = le_octets n (v / 256) i

pub be_octets : (v : ℕ) → v < 65_536 → Octets (be16_bytes v)
be_octets v h zero = omega arith
be_octets v h (suc zero) = omega arith
be_octets v h (suc (suc i)) = omega arith

-- A part of bytes has bytes.
pub drop_octets : (n : ℕ) (b : List ℕ) → Octets b → Octets (drop n b)
drop_octets zero b h = h
drop_octets (suc n) [] h = h
drop_octets (suc n) (x ∷ b) h = drop_octets n b (λ i. h (suc i))

first_octet : (x : ℕ) (b : List ℕ) → x < 256 → Octets b → (i : ℕ) → byte_at (x ∷ b) i < 256
first_octet x b h o zero = h
first_octet x b h o (suc i) = o i

pub take_octets : (n : ℕ) (b : List ℕ) → Octets b → Octets (take n b)
take_octets zero b h = λ i. omega arith
take_octets (suc n) [] h = h
take_octets (suc n) (x ∷ b) h = first_octet x (take n b) (h 0) (take_octets n b (λ j. h (suc j)))

set_octets : (b : List ℕ) (i v : ℕ) → Octets b → v < 256 → Octets (set b i v)
set_octets [] i v h p j = h j
set_octets (x ∷ b) zero v h p zero = p
set_octets (x ∷ b) zero v h p (suc j) = h (suc j)
set_octets (x ∷ b) (suc i) v h p zero = h zero
set_octets (x ∷ b) (suc i) v h p (suc j) = set_octets b i v (λ n. h (suc n)) p j

pub sets_octets : (vs b : List ℕ) (i : ℕ) → Octets b → Octets vs → Octets (sets b i vs)
sets_octets [] b i h g = h
sets_octets (v ∷ vs) b i h g =
    sets_octets vs (set b i v) (suc i) (set_octets b i v h (g zero)) (λ n. g (suc n))

pub unsigned_is : (z : ℤ) → unsigned64 z ≡ of_z w64 z
unfolding unsigned64
unsigned_is (pos n) = refl
unsigned_is (negsuc n) = omega arith

-- Each of the two undoes the other.
pub signed_unsigned : (z : ℤ) → mag z < 2 ^ 63 → signed64 (unsigned64 z) ≡ z
signed_unsigned z h = signed_is (unsigned64 z) ∙ (ap (to_z w64) (unsigned_is z) ∙ to_z-of_z {w = w64} (record { sfits = h }))

pub unsigned_signed : (n : ℕ) → n < 2 ^ 64 → unsigned64 (signed64 n) ≡ n
unsigned_signed n h = unsigned_is (signed64 n) ∙ (ap (of_z w64) (signed_is n) ∙ of_z-to_z {w = w64} (record { fits = h }))

-- What either gives lies in its range.
pub signed_range : (n : ℕ) → n < 2 ^ 64 → mag (signed64 n) < 2 ^ 63
signed_range n h = rw (signed_is n) (sfits_to_z {w = w64} {n = n} (record { fits = h })).sfits

pub unsigned_range : (z : ℤ) → mag z < 2 ^ 63 → unsigned64 z < 2 ^ 64
unsigned_range z h = rw (unsigned_is z) (Fits-of_z {w = w64} {z = z} (record { sfits = h })).fits

-- ---- stores and puts as a program makes them

-- Where there is room, a put is a store: the bytes take the place of as many.
pub put_part : (b vs part : List ℕ) (i n : ℕ) → n ≡ length vs → i + n ≤ length b → part ≡ vs → put_mid i (i + n - i) b part ≡ put_at b i vs
put_part b vs part i n size room same =
    let whole : i + length vs ≤ length b = omega arith in
    let end : i + n ≡ i + length vs = omega arith in
    ap (λ (p : List ℕ). put_mid i (i + n - i) b p) same
    ∙ ap (λ (rest : List ℕ). take i b ++ (vs ++ rest)) (Post-is i (i + n) b (omega arith) ∙ ap (λ (k : ℕ). drop k b) end)
    ∙ sym (append_assoc (take i b) vs (drop (i + length vs) b))
    ∙ sym (sets-eq vs b i whole)
    ∙ sym (simp (le-leb (i + length vs) (length b) whole))

-- The bytes of a number as the machine makes them.
bytes_behind : (i n v : ℕ) → bytes_low_first i n v ≡ le_bytes n (v / 256 ^ i)
unfolding le_bytes
bytes_behind i zero v = refl
bytes_behind zero (suc n) v = rw (div-one v) (ap (◌∷◌ (v % 256)) (bytes_behind 1 n v))
bytes_behind (suc i) (suc n) v =
    let e : v / 256 ^ suc i / 256 ≡ v / 256 ^ suc (suc i) = rw (div-div-eq-div-mul v (256 ^ suc i) 256, ← pow-suc 256 (suc i)) in
    rw e (ap (◌∷◌ (v / 256 ^ suc i % 256)) (bytes_behind (suc (suc i)) n v))

pub le16_put : (v : ℕ) → to_le_bytes w16 v ≡ le_bytes 2 v
le16_put v = rw div-one at (bytes_behind 0 2 v)

pub le32_put : (v : ℕ) → to_le_bytes w32 v ≡ le_bytes 4 v
le32_put v = rw div-one at (bytes_behind 0 4 v)

pub le64_put : (z : ℤ) → to_le_bytes w64 (of_z w64 z) ≡ le_bytes 8 (unsigned64 z)
le64_put z = rw (unsigned_is z) (rw div-one at (bytes_behind 0 8 (of_z w64 z)))
