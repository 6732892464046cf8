-- The theorems of specs/Theorems: bytes are read sequence by sequence up to the first place where none starts.
use Prim.Native.Nat.{ℕ, zero, suc, ◌+◌, ◌<◌, ◌≤◌}
use native.Mathlib.Nat.{not-suc-le-zero, le_of_suc-le-suc}
use mathlib.Core.Path.{◌≡◌, refl, sym, ap, ◌∙◌}
use mathlib.Core.List.{List, [], ◌∷◌, ◌++◌, append_assoc}
use native.Mathlib.Decide.{ℕ_discrete}
use native.Mathlib.Omega.{arith}
use lib.ListN.{length, get_or, take, drop, length-append, take-append-drop}
use lib.Seq.{take-append-add, drop_at, length-take-le}
use borrow.Author.Tests.{eqb-true, eq-eqb}
use Rattle.utf8.specs.Table.{sequence_size, valid_up_to}
use Rattle.utf8_theorems.specs.Encoding.{Scalar, encode, encode_all, Text}
use Rattle.utf8_theorems.specs.Theorems.{WellFormedIsText, ValidUpToIsLongest}
use Rattle.utf8.proofs.Places.{good_next, good_stop, bad_nil, good_within}
use Rattle.utf8_theorems.proofs.Sequences.{Sequence, one, two, three, four, sequence_size_lem, Split, split, splits, encoded, decoded}

-- ---- sequence by sequence

-- A sequence has a byte.
has_byte : {q : List ℕ} → Sequence q → 0 < length q
has_byte (one h) = omega arith
has_byte (two h k t) = omega arith
has_byte (three h k m t) = omega arith
has_byte (four h k m t u) = omega arith

-- A sequence in front is as many good bytes more.
in_front : {q : List ℕ} (t : List ℕ) → Sequence q → valid_up_to (q ++ t) ≡ length q + valid_up_to t
in_front {q} t w = go (length q) refl (sequence_size_lem t w)
  where
    go : (n : ℕ) → length q ≡ n → sequence_size (q ++ t) ≡ n → valid_up_to (q ++ t) ≡ n + valid_up_to t
    go zero e f = absurd (omega (arith, has_byte w))
    go (suc k) e f = good_next (q ++ t) k f ∙ ap (λ (s : List ℕ). suc k + valid_up_to s) (drop_at q t (suc k) e)

-- A text: sequences, and what is left where none starts.
data Parsed : List ℕ → Type 0 where
  stop : {s : List ℕ} → valid_up_to s ≡ 0 → Parsed s
  more : {q t : List ℕ} → Sequence q → Parsed t → Parsed (q ++ t)

nil_of : (s : List ℕ) → length s ≡ 0 → s ≡ []
nil_of [] e = refl
nil_of (a ∷ s) e = absurd (omega arith)

module _ (n : ℕ) (shorter : (t : List ℕ) → length t ≤ n → Parsed t) where
  behind : {s : List ℕ} → Split s → length s ≤ suc n → Parsed s
  behind (split {q} t w) h =
      let b = has_byte w in
      let l = length-append q t in
      more w (shorter t (omega arith))

  parse_one : (s : List ℕ) → length s ≤ suc n → Parsed s
  parse_one [] h = stop bad_nil
  parse_one (a ∷ s) h =
      elim (ℕ_discrete (sequence_size (a ∷ s)) 0) [
        | yes e ↦ stop (good_stop (a ∷ s) e)
        | no e ↦ behind (splits a s (omega arith)) h
      ]

parse : (n : ℕ) (s : List ℕ) → length s ≤ n → Parsed s
parse zero s h = parse_one zero (λ t l. stop (rw (nil_of t (omega arith)) bad_nil)) s (omega arith)
parse (suc n) s h = parse_one n (λ t l. parse n t l) s h

parsed : (s : List ℕ) → Parsed s
parsed s = parse (length s) s (omega arith)

-- ---- well-formed is text

from_scalars : (vs : List ℕ) → ((i : ℕ) → i < length vs → Scalar (get_or vs i 0)) → valid_up_to (encode_all vs) ≡ length (encode_all vs)
unfolding encode_all
from_scalars [] g = bad_nil
from_scalars (v ∷ vs) g =
    let w = encoded v (g 0 (omega arith)) in
    in_front (encode_all vs) w
    ∙ (ap (λ (n : ℕ). length (encode v) + n) (from_scalars vs (λ i h. g (suc i) (omega arith))) ∙ sym (length-append (encode v) (encode_all vs)))

all_scalars : (v : ℕ) (vs : List ℕ) → Scalar v → ((i : ℕ) → i < length vs → Scalar (get_or vs i 0))
    → (i : ℕ) → i < suc (length vs) → Scalar (get_or (v ∷ vs) i 0)
all_scalars v vs g gs zero h = g
all_scalars v vs g gs (suc i) h = gs i (le_of_suc-le-suc h)

to_scalars : {s : List ℕ} → Parsed s → valid_up_to s ≡ length s → Text s
unfolding encode_all
to_scalars (stop {s} b) e =
    ([], record { scalars = λ i h. absurd (not-suc-le-zero h); bytes = nil_of s (omega arith) })
to_scalars (more {q} {t} w p) e =
    let f = in_front t w in
    let l = length-append q t in
    let d = decoded w in
    let r = to_scalars p (omega arith) in (
      d.0 ∷ r.0,
      record {
        scalars = all_scalars d.0 r.0 d.1.scalar r.1.scalars;
        bytes = cc (d.1.bytes, r.1.bytes);
      },
    )

pub well_formed_is_text : WellFormedIsText
well_formed_is_text s = (
  λ e. to_scalars (parsed s) (eqb-true _ _ e),
  λ r. rw r.1.bytes (eq-eqb _ _ (from_scalars r.0 r.1.scalars)),
)

-- ---- the longest start that is well-formed

taken : {s : List ℕ} → Parsed s → valid_up_to (take (valid_up_to s) s) ≡ valid_up_to s
taken (stop {s} e) = rw e bad_nil
taken (more {q} {t} w p) =
    rw (in_front t w, take-append-add q t (valid_up_to t), in_front (take (valid_up_to t) t) w) (ap (λ (n : ℕ). length q + n) (taken p))

-- More bytes behind make no good byte bad.
grows : {s : List ℕ} → Parsed s → (r : List ℕ) → valid_up_to s ≤ valid_up_to (s ++ r)
grows (stop e) r = omega arith
grows (more {q} {t} w p) r =
    let g = grows p r in
    let f = in_front t w in
    let h = in_front (t ++ r) w in
    rw (append_assoc q t r) (omega arith)

pub valid_up_to_is_longest : ValidUpToIsLongest
valid_up_to_is_longest s = record {
  within = good_within 0 s;
  good = eq-eqb _ _ (taken (parsed s) ∙ sym (length-take-le (valid_up_to s) s (good_within 0 s)));
  longest = λ m h e.
      let f : valid_up_to (take m s) ≡ m = eqb-true _ _ e ∙ length-take-le m s h in
      let g = grows (parsed (take m s)) (drop m s) in
      let j : valid_up_to (take m s ++ drop m s) ≡ valid_up_to s = ap (λ (t : List ℕ). valid_up_to t) (take-append-drop m s) in
      omega arith;
}
