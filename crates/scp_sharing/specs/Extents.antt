-- Extents of the file (W-4), each a start and a size, and lists of them.
use Rattle.std.specs.Prelude.{ℕ, zero, suc, ◌+◌, ◌-◌, ◌<◌, ◌≤◌, List, [], ◌∷◌, ◌++◌, Bool, false, ◌&&◌, ◌||◌, ltb}
use Rattle.scp_sharing.specs.declared.Extent.{Extent}

-- W-4: the extent of n bytes from s on.
abbrev pub extent : ℕ → ℕ → Extent
extent s n = record { start = s; size = n }

-- W-4: the bytes from one offset up to another.
abbrev pub between : ℕ → ℕ → Extent
between from to = extent from (to - from)

-- W-4: the two have a byte in common; an empty extent has none.
unfoldable pub meets : Extent → Extent → Bool
meets x y =
    (ltb x.start (y.start + y.size) && ltb y.start (x.start + x.size)) && (ltb 0 x.size && ltb 0 y.size)

-- W-4: byte i lies in the extent x.
abbrev pub In : ℕ → Extent → Type 0
In i x = (x.start ≤ i) × (i < x.start + x.size)

-- W-3: some extent of the list passes the test.
unfoldable pub any_of : (Extent → Bool) → List Extent → Bool
any_of p [] = false
any_of p (x ∷ xs) = p x || any_of p xs

-- W-3: the extents of n indices from i on, one list after another.
unfoldable pub joined : (ℕ → List Extent) → ℕ → ℕ → List Extent
joined f i zero = []
joined f i (suc n) = f i ++ joined f (i + 1) n
