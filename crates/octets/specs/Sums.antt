-- The byte sum (N-6).
use Rattle.std.specs.Prelude.{ℕ, ◌+◌, ◌%◌, List, [], ◌∷◌}

-- N-6: the sum of the single bytes.
unfoldable pub sum_of : List ℕ → ℕ
sum_of [] = 0
sum_of (x ∷ xs) = x + sum_of xs

-- N-6: the byte sum modulo 2^32, as a checksum holds it.
abbrev pub byte_sum : List ℕ → ℕ
byte_sum b = sum_of b % 4_294_967_296
