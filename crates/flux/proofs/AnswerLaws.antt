-- What an answer says of the buffer that was to be filled.
use mathlib.Core.Path.{◌≡◌, ap}
use Prim.Native.Nat.{ℕ, ◌<◌, ◌≤◌}
use native.Mathlib.Omega.{arith}
use mathlib.Core.List.{List, [], ◌∷◌}
use mathlib.Core.Bool.{Bool, true, false, cond}
use lib.ListN.{length}
use lib.Dec.{ltb}
use borrow.Author.Tests.{lt-ltb, le-ltb}
use Rattle.refusals.specs.declared.Reason.{Reason}
use Rattle.refusals.specs.declared.Refusal.{Refusal}
use Rattle.refusals.specs.Refusals.{number_of, refusal_at}
use Rattle.flux.specs.Coding.{words_of, bad_flux_size}
use Rattle.flux.specs.Reading.{open_time}
use Rattle.flux.specs.Answers.{places_refused, words_refused, refused, refuses, fills, in_places, list_read}

-- a refusal by its number and position
pub refused_by : {r : Refusal} {n : Reason} {p : ℕ} → r ≡ refusal_at n p → refused (number_of r.reason) r.position ≡ refused (number_of n) p
refused_by e = ap (λ (x : Refusal). refused (number_of x.reason) x.position) e

-- too few places are refused with 15, and never with 17
pub places_only : (places : ℕ) (vs xs : List ℕ) (p : ℕ) → in_places places vs xs ≡ refuses words_refused p → ⊥
places_only places vs xs p e = go (ltb places (length xs)) e
  where
    go : (x : Bool) → cond x (refuses places_refused 0) (fills vs xs) ≡ refuses words_refused p → ⊥
    go true h = let z : places_refused ≡ words_refused = cc in omega arith
    go false h = let z : ◌≡◌ {A = ℕ} 0 1 = cc in omega arith

-- ---- a list made of flux bytes

module _ (s : List ℕ) (places : ℕ) (xs : List ℕ) where
  pub list_short : bad_flux_size (length s) ≡ false → places < length xs → list_read s places xs ≡ refuses places_refused 0
  list_short good h = simp (good, lt-ltb _ _ h)

  pub list_fits : bad_flux_size (length s) ≡ false → length xs ≤ places → list_read s places xs ≡ fills (length xs ∷ open_time 0 (words_of s) ∷ []) xs
  list_fits good h = simp (good, le-ltb _ _ h)
