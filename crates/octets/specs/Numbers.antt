-- Numbers held in bytes (N-1 to N-5, N-7): little endian, but flux words, which are big endian.
-- A list of bytes is read by index, and past its end a byte reads 0, so that no definition asks for a bound.
use Rattle.std.specs.Prelude.{ℕ, zero, suc, ◌+◌, ◌-◌, ◌*◌, ◌/◌, ◌%◌, ◌<◌, Bool, cond, List, [], ◌∷◌, length, ℤ, pos, negsuc, nat_le, nat_lt, slice_index}
use Rattle.std.proofs.lemmas.List.Edits.{sets}

-- N-4: the byte at offset i; past the end it reads 0.
abbrev pub byte_at : List ℕ → ℕ → ℕ
byte_at b i = slice_index b i

-- N-7: every element is a byte, a number below 256.
abbrev pub Octets : List ℕ → Type 0
Octets b = (i : ℕ) → byte_at b i < 256

-- ---- reading

-- N-1: the number of n bytes at offset i, little endian: the byte at the lowest offset counts least.
unfoldable pub le_at : ℕ → List ℕ → ℕ → ℕ
le_at zero b i = 0
le_at (suc n) b i = byte_at b i + 256 * le_at n b (suc i)

-- N-1: 16 bits, little endian.
abbrev pub le16_at : List ℕ → ℕ → ℕ
le16_at = le_at 2

-- N-1: 32 bits, little endian.
abbrev pub le32_at : List ℕ → ℕ → ℕ
le32_at = le_at 4

-- N-3: two's complement of 64 bits: the signed number of an unsigned one below 2^64.
unfoldable pub signed64 : ℕ → ℤ
signed64 n = cond (nat_lt n 9_223_372_036_854_775_808) (pos n) (negsuc (18_446_744_073_709_551_615 - n))

-- N-3: 64 bits, signed, little endian.
abbrev pub le64_at : List ℕ → ℕ → ℤ
le64_at b i = signed64 (le_at 8 b i)

-- N-2: a flux word's number from its two bytes, the upper first.
abbrev pub be16 : ℕ → ℕ → ℕ
be16 hi lo = 256 * hi + lo

-- N-2: 16 bits, big endian.
abbrev pub be16_at : List ℕ → ℕ → ℕ
be16_at b i = be16 (byte_at b i) (byte_at b (suc i))

-- ---- writing

-- N-1: the n bytes of a number, little endian.
unfoldable pub le_bytes : ℕ → ℕ → List ℕ
le_bytes zero v = []
le_bytes (suc n) v = v % 256 ∷ le_bytes n (v / 256)

-- N-2: the two bytes of a 16-bit number, big endian.
abbrev pub be16_bytes : ℕ → List ℕ
be16_bytes v = v / 256 ∷ v % 256 ∷ []

-- N-3: two's complement of 64 bits: the unsigned number of a signed one.
unfoldable pub unsigned64 : ℤ → ℕ
unsigned64 (pos n) = n
unsigned64 (negsuc n) = 18_446_744_073_709_551_615 - n

-- N-5: n bytes lie whole in the list from offset i on.
abbrev pub has_room : List ℕ → ℕ → ℕ → Bool
has_room b i n = nat_le (i + n) (length b)

-- N-5: the bytes vs put at offset i: all of them, or none where they do not all fit.
abbrev pub put_at : List ℕ → ℕ → List ℕ → List ℕ
put_at b i vs = cond (has_room b i (length vs)) (sets b i vs) b
