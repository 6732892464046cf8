-- How an answer passes to C: a number is returned, and values are put to a lent buffer (the headers in include/).
use Rattle.std.specs.Prelude.{ℕ, ◌+◌, ◌*◌, ◌%◌, List, ◌++◌, cond, length, drop, ltb, Result, Ok, Err}
use Rattle.refusals.specs.declared.Refusal.{Refusal}
use Rattle.refusals.specs.Refusals.{number_of, fault_of}

-- C-1: what a call gives: a refusal's number and position, or the values for `out`.
pub data Given (A : Type 0) : Type 0 where
  refuses : ℕ → ℕ → Given A
  gives : List A → Given A

-- ---- what is returned

-- C-1: a refusal as one number: its number + 256 x its position. The number is in the lowest byte, the position in the 56 bits
-- above; no refusal of a call on an image, or of writing one, is larger (`Uncut` of scp_boundary and of dsk_c, `DirectUncut` of direct_coded, `WriteUncut` of dsk_c).
abbrev pub packed : ℕ → ℕ → ℕ
packed number position = number % 256 + 256 * (position % 72_057_594_037_927_936)

-- C-1: a refusal as one number.
abbrev pub refusal_code : Refusal → ℕ
refusal_code r = packed (number_of r.reason) r.position

-- C-1: what a call without values returns: 0, or its refusal as one number.
abbrev pub found_code : Result Unit Refusal → ℕ
found_code f = packed (fault_of f).number (fault_of f).position

-- C-1: what a call found, or its refusal.
abbrev pub given : {A : Type 0} → Result (List A) Refusal → Given A
given (Ok vs) = gives vs
given (Err r) = refuses (number_of r.reason) r.position

-- C-1: 0, or the refusal's number + 256 x its position.
abbrev pub code_of : {A : Type 0} → Given A → ℕ
code_of (refuses number position) = packed number position
code_of (gives vs) = 0

-- ---- what is put to `out`

-- C-3: 15 where `out` is too short for the values; every other refusal comes before it.
abbrev pub within : {A : Type 0} → ℕ → Given A → Given A
within places (refuses number position) = refuses number position
within places (gives vs) = cond (ltb places (length vs)) (refuses 15 0) (gives vs)

-- C-3: the buffer after the call: the values at its start and its old contents beyond, or as it was.
abbrev pub out_after : {A : Type 0} → List A → Given A → List A
out_after old (refuses number position) = old
out_after old (gives vs) = vs ++ drop (length vs) old
