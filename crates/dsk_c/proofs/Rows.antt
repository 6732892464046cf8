-- The row of what a call found is given as the definition says.
use Prim.Native.Nat.{ℕ}
use mathlib.Core.Path.{◌≡◌, ap}
use mathlib.Core.List.{List}
use Rattle.std.specs.Prelude.{Result, Ok, Err, MatchResult}
use Rattle.std.specs.Result.{IsOkAnd}
use Rattle.refusals.specs.declared.Refusal.{Refusal}
use Rattle.refusals.specs.Refusals.{found}
use Rattle.boundary.specs.Boundary.{given, gives}
use Rattle.dsk_c.specs.Values.{numbers_given}

pub row_given : {A : Type 0} (numbers : A → List ℕ) {P : A → List ℕ → Type 0} (x : Result A Refusal) (row : Result (List ℕ) Refusal)
    → MatchResult x (λ v. IsOkAnd row (P v)) (λ e. row ≡ Err e) → ((v : A) (r : List ℕ) → P v r → r ≡ numbers v)
    → given row ≡ numbers_given numbers (found x)
row_given numbers (Ok v) (Ok r) h is = ap gives (is v r h)
row_given numbers (Ok v) (Err e) h is = absurd h
row_given numbers (Err e) row h is = ap given h
