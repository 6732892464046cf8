-- A second list that is written beside another, as far as it reaches.
use mathlib.Core.Path.{◌≡◌, refl, sym, ap, ◌∙◌}
use Prim.Native.Nat.{ℕ, ◌+◌, ◌-◌, ◌<◌, ◌≤◌}
use native.Mathlib.Omega.{arith}
use native.Mathlib.Decide.{ℕ_discrete}
use mathlib.Core.Bool.{Bool, true, false}
use mathlib.Core.List.{List, [], ◌∷◌, ◌++◌}
use lib.ListN.{length, get_or, take, drop, set, length-set, length-append, length-take, length-drop, get_or-append}
use lib.Dec.{ltb}
use borrow.Author.Tests.{ltb-true, ltb-false}
use lib.Seq.{get_or-take, get_or-drop, get_or-append_right, get_or-set_same, get_or-set_other, ext_get_or, drop-drop}

-- Of `whole` the first n elements stand in d as far as it reaches, `rest` is still to be written, and from n on d is what it was, d₀.
pub record Beside (d₀ d : List ℕ) (n : ℕ) (rest whole : List ℕ) : Type 0 where
  pub done : (k : ℕ) → k < n → k < length d → get_or d k 0 ≡ get_or whole k 0
  pub next : drop n whole ≡ rest
  pub left : (k : ℕ) → n ≤ k → get_or d k 0 ≡ get_or d₀ k 0

pub beside_start : (d whole : List ℕ) → Beside d d 0 whole whole
beside_start d whole = record { done = λ k h. absurd (omega arith); next = refl; left = λ k h. refl }

-- what is still to be written, said otherwise
pub beside_retell : {d₀ d : List ℕ} {n : ℕ} {rest rest' whole : List ℕ} → rest ≡ rest' → Beside d₀ d n rest whole → Beside d₀ d n rest' whole
beside_retell e h = record { done = h.done; next = h.next ∙ e; left = h.left }

module _ {d₀ d : List ℕ} {n v : ℕ} {rest whole : List ℕ} (h : Beside d₀ d n (v ∷ rest) whole) where
  here : get_or whole n 0 ≡ v
  here =
      let e : n + 0 ≡ n = omega arith in
      rw e at (sym (get_or-drop n whole 0 0)) ∙ ap (λ (x : List ℕ). get_or x 0 0) h.next

  after : drop (n + 1) whole ≡ rest
  after = sym (drop-drop 1 n whole) ∙ ap (drop 1) h.next

  -- one element more, which has a place
  pub beside_put : n < length d → Beside d₀ (set d n v) (n + 1) rest whole
  beside_put b = record {
    done = λ k l m.
        let size = length-set d n v in
        elim (ℕ_discrete k n) [
          | yes q ↦ rw q (get_or-set_same d n v 0 b ∙ sym here)
          | no q ↦ get_or-set_other d n k v 0 q ∙ h.done k (omega arith) (omega arith)
        ];
    next = after;
    left = λ k l. let ne : k ≡ n → ⊥ = λ e. omega arith in rw get_or-set_other (h.left k (omega arith));
  }

  -- one element more, which has none
  pub beside_past : length d ≤ n → Beside d₀ d (n + 1) rest whole
  beside_past b = record { done = λ k l m. h.done k (omega arith) m; next = after; left = λ k l. h.left k (omega arith) }

-- all of it is written, as far as the list reaches
pub beside_whole : {d₀ d whole : List ℕ} {n : ℕ} → length d ≡ length d₀ → n ≡ length whole → Beside d₀ d n [] whole
    → d ≡ take (length d₀) (whole ++ drop (length whole) d₀)
beside_whole {d₀} {d} {whole} {n} same all h =
    let size = length-take (length d₀) (whole ++ rest) in
    let sum = length-append whole rest in
    let left = length-drop (length whole) d₀ in
    ext_get_or 0 d (take (length d₀) (whole ++ rest)) (omega arith) (λ k l. each k l (ltb k (length whole)) refl)
  where
    rest : List ℕ
    rest = drop (length whole) d₀

    each : (k : ℕ) → k < length d → (t : Bool) → ltb k (length whole) ≡ t → get_or d k 0 ≡ get_or (take (length d₀) (whole ++ rest)) k 0
    each k l true e =
        let b = ltb-true k (length whole) e in
        h.done k (omega arith) l ∙ sym (get_or-append whole rest 0 k b) ∙ sym (get_or-take (length d₀) (whole ++ rest) k 0 (omega arith))
    each k l false e =
        let b = ltb-false k (length whole) e in
        let f : length whole + (k - length whole) ≡ k = omega arith in
        h.left k (omega arith) ∙ ap (λ (j : ℕ). get_or d₀ j 0) (sym f) ∙ sym (get_or-drop (length whole) d₀ (k - length whole) 0)
        ∙ sym (get_or-append_right whole rest k 0 b) ∙ sym (get_or-take (length d₀) (whole ++ rest) k 0 (omega arith))
