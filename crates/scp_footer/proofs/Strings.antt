-- Whether a part holds a zero byte, and what makes a string of n bytes at offset o bad, by the first test that it fails.
use Prim.Native.Nat.{ℕ, zero, suc, ◌+◌, ◌<◌, ◌≤◌}
use mathlib.Core.Path.{◌≡◌, refl, sym, ap, ◌∙◌}
use mathlib.Core.List.{List, ◌∷◌}
use mathlib.Core.Bool.{Bool, true, not, ◌||◌, or-true}
use native.Mathlib.Omega.{arith}
use native.Mathlib.Numerals.{add-one}
use lib.ListN.{length, get_or, take, drop}
use lib.Seq.{drop-cons}
use Rattle.std.specs.List.{list_any}
use Rattle.refusals.specs.Search.{any_from}
use lib.Dec.{eqb}
use borrow.Author.Tests.{lt-ltb, le-ltb}
use Rattle.octets.specs.Numbers.{byte_at}
use Rattle.scp_fields.specs.declared.Edition.{Edition}
use Rattle.scp_fields.specs.Editions.{table_end}
use Rattle.scp_fields.specs.Header.{data_end}
use Rattle.scp_footer.specs.Footer.{zero_at, zero_within, bad_string_of}

-- the n elements from s on hold a zero exactly if one of their indices does
pub any_zero : (b : List ℕ) (s n : ℕ) → s + n ≤ length b → list_any (λ y. eqb y 0) (take n (drop s b)) ≡ any_from (zero_at b) s n
unfolding any_from
any_zero b s zero h = refl
any_zero b s (suc n) h =
    let here : drop s b ≡ get_or b s 0 ∷ drop (s + 1) b = rw (add-one, drop-cons b s 0 (omega arith)) in
    ap (λ (l : List ℕ). list_any (λ y. eqb y 0) (take (suc n) l)) here
    ∙ ap (λ (x : Bool). zero_at b s || x) (any_zero b (s + 1) n (omega arith))

module _ (v : Edition) (b : List ℕ) (o n : ℕ) where
  pub string_low : o < table_end v → true ≡ bad_string_of v b o n
  unfolding bad_string_of
  string_low h = sym (simp (lt-ltb _ _ h))

  pub string_past : data_end v b < o + 3 + n → true ≡ bad_string_of v b o n
  unfolding bad_string_of
  string_past h = sym (simp (lt-ltb _ _ h, or-true))

  pub string_in : table_end v ≤ o → o + 3 + n ≤ data_end v b → (z : Bool) → z ≡ zero_within b (o + 2) n
      → (z || not (eqb (byte_at b (o + 2 + n)) 0)) ≡ bad_string_of v b o n
  unfolding bad_string_of
  string_in h k z e = simp (e, le-ltb _ _ h, le-ltb _ _ k)
