-- A text that bytes begin with: what it says of the part of the image there, and how it is compared four characters at a time.
use Prim.Native.Nat.{ℕ, zero, suc, ◌+◌, ◌*◌, ◌/◌, ◌%◌, ◌^◌, ◌<◌, ◌≤◌}
use mathlib.Core.Path.{◌≡◌, refl, sym, ap, ap₂, ◌∙◌}
use mathlib.Core.List.{List, [], ◌∷◌, ◌++◌}
use mathlib.Core.Bool.{Bool, true, false, ◌&&◌}
use native.Mathlib.Decide.{ℕ_discrete}
use native.Mathlib.Nat.{pow-succ'}
use native.Mathlib.Omega.{arith}
use lib.ListN.{length, take, drop}
use lib.Seq.{drop-cons, drop-drop}
use lib.Dec.{eqb}
use borrow.Author.Tests.{eq-eqb, ne_eqb}
use Rattle.octets.specs.Numbers.{byte_at, Octets, le_at, le_bytes}
use Rattle.octets.proofs.Numbers.{le_length}
use Rattle.std.specs.Cmp.Lexicographic.{pointwise}
use Rattle.std.proofs.lemmas.Bool.Decides.{Decides-eqb}
use Rattle.std.proofs.lemmas.Slice.Eq.{slice_eq-Decides}
use Rattle.dsk_fields.specs.Fields.{begins_with, says_at}

same_test : (c x : ℕ) → eqb c x ≡ eqb x c
same_test c x = grind arith

-- `starts_with` says whether the bytes begin with the text
pub begins_is : (text bytes : List ℕ) → pointwise eqb text (take (length text) bytes) ≡ begins_with text bytes
unfolding begins_with
begins_is [] bytes = refl
begins_is (c ∷ text) [] = refl
begins_is (c ∷ text) (x ∷ bytes) = ap₂ ◌&&◌ (same_test c x) (begins_is text bytes)

-- a part that is as long as the text is enough to compare it
pub begins_take : (text bytes : List ℕ) (n : ℕ) → length text ≤ n → begins_with text (take n bytes) ≡ begins_with text bytes
unfolding begins_with
begins_take [] bytes n h = refl
begins_take (c ∷ text) bytes zero h = absurd (omega arith)
begins_take (c ∷ text) [] (suc n) h = refl
begins_take (c ∷ text) (x ∷ bytes) (suc n) h = ap (λ (t : Bool). eqb x c && t) (begins_take text bytes n (omega arith))

pub begins_part : (text bytes : List ℕ) → begins_with text bytes ≡ true → take (length text) bytes ≡ text
begins_part text bytes e = sym ((slice_eq-Decides Decides-eqb text (take (length text) bytes) _ refl).0 (begins_is text bytes ∙ e))

pub part_begins : (text bytes : List ℕ) → take (length text) bytes ≡ text → begins_with text bytes ≡ true
part_begins text bytes e =
    sym (begins_is text bytes) ∙ (slice_eq-Decides Decides-eqb text (take (length text) bytes) _ refl).1 (sym e)

-- ---- a text compared four characters at a time, as numbers

-- a number is another exactly if its lowest byte and the rest are
both_eqb : (x m v : ℕ) → x < 256 → eqb (x + 256 * m) v ≡ eqb x (v % 256) && eqb m (v / 256)
both_eqb x m v h =
    elim (ℕ_discrete x (v % 256)) [
      | yes e ↦ elim (ℕ_discrete m (v / 256)) [
        | yes f ↦ (let q : x + 256 * m ≡ v = omega arith in simp (eq-eqb (x + 256 * m) v q, eq-eqb x (v % 256) e, eq-eqb m (v / 256) f))
        | no f ↦
            (let q : x + 256 * m ≡ v → ⊥ = λ z. f (omega arith) in
            simp (ne_eqb (x + 256 * m) v q, eq-eqb x (v % 256) e, ne_eqb m (v / 256) f))
      ]
      | no e ↦ (let q : x + 256 * m ≡ v → ⊥ = λ z. e (omega arith) in simp (ne_eqb (x + 256 * m) v q, ne_eqb x (v % 256) e))
    ]

-- the number of n bytes is v exactly if they are the bytes of v
pub number_says : (n v : ℕ) (b : List ℕ) (i : ℕ) → Octets b → i + n ≤ length b → v < 256 ^ n → eqb (le_at n b i) v ≡ says_at b i (le_bytes n v)
unfolding le_at le_bytes begins_with
number_says zero v b i o h l = let e : 0 ≡ v = omega arith in eq-eqb 0 v e
number_says (suc n) v b i o h l =
    let room : suc i + n ≤ length b = omega arith in
    let bound : v < 256 * 256 ^ n = rw pow-succ' at l in
    let small : v / 256 < 256 ^ n = omega arith in
    let here = drop-cons b i 0 (omega arith) in
    both_eqb (byte_at b i) (le_at n b (suc i)) v (o i)
    ∙ ap (λ (t : Bool). eqb (byte_at b i) (v % 256) && t) (number_says n (v / 256) b (suc i) o room small)
    ∙ sym (ap (begins_with (v % 256 ∷ le_bytes n (v / 256))) here)

-- one text after the other
begins_append : (first rest bytes : List ℕ) → begins_with (first ++ rest) bytes ≡ begins_with first bytes && begins_with rest (drop (length first) bytes)
unfolding begins_with
begins_append [] rest bytes = refl
begins_append (c ∷ first) rest [] = refl
begins_append (c ∷ first) rest (x ∷ bytes) = by (eqb x c) (begins_append first rest bytes)
  where
    by : (v : Bool) → begins_with (first ++ rest) bytes ≡ begins_with first bytes && begins_with rest (drop (length first) bytes)
        → v && begins_with (first ++ rest) bytes ≡ v && begins_with first bytes && begins_with rest (drop (length first) bytes)
    by true e = e
    by false e = refl

-- four bytes that are those of v, and a text after them
pub number_then : (v : ℕ) (b : List ℕ) (i : ℕ) (rest : List ℕ) {t : Bool} → Octets b → i + 4 ≤ length b → v < 256 ^ 4
    → t ≡ says_at b (i + 4) rest → eqb (le_at 4 b i) v && t ≡ says_at b i (le_bytes 4 v ++ rest)
number_then v b i rest o h l e =
    let after : drop (length (le_bytes 4 v)) (drop i b) ≡ drop (i + 4) b =
    ap (λ (n : ℕ). drop n (drop i b)) (le_length 4 v) ∙ drop-drop 4 i b in
    ap₂ ◌&&◌ (number_says 4 v b i o h l) (e ∙ sym (ap (begins_with rest) after)) ∙ sym (begins_append (le_bytes 4 v) rest (drop i b))
