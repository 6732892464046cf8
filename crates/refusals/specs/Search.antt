-- Searches over indices, counted upwards (RO-2): the n indices from i on.
use Rattle.std.specs.Prelude.{ℕ, zero, suc, ◌+◌, List, [], ◌∷◌, Bool, false, ◌||◌}
use Rattle.refusals.specs.Refusals.{Fault, none, first_of}

-- RO-2: some of the indices passes the test.
unfoldable pub any_from : (ℕ → Bool) → ℕ → ℕ → Bool
any_from p i zero = false
any_from p i (suc n) = p i || any_from p (i + 1) n

-- RO-2: the first refusal among the indices, or none.
unfoldable pub first_from : (ℕ → Fault) → ℕ → ℕ → Fault
first_from f i zero = none
first_from f i (suc n) = first_of (f i) (first_from f (i + 1) n)

-- RO-2: the numbers at the indices, in the order of the search.
unfoldable pub list_from : (ℕ → ℕ) → ℕ → ℕ → List ℕ
list_from f i zero = []
list_from f i (suc n) = f i ∷ list_from f (i + 1) n
