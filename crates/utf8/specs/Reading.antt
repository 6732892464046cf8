-- The table as a program reads it: by the first byte of a sequence, and from place to place (UT-6).
use Rattle.std.specs.Prelude.{ℕ, ◌+◌, ◌<◌, ◌≤◌, ◌≡◌, List, Option, MatchOption, cond, length, drop, eqb}
use Rattle.utf8.specs.Table.{valid_up_to}

-- UT-6: the least second byte after the first byte a, where a sequence has two bytes or more.
abbrev pub lowest : ℕ → ℕ
lowest a = cond (eqb a 0xE0) 0xA0 (cond (eqb a 0xF0) 0x90 0x80)

-- UT-6: the greatest second byte after the first byte a, likewise.
abbrev pub highest : ℕ → ℕ
highest a = cond (eqb a 0xED) 0x9F (cond (eqb a 0xF4) 0x8F 0xBF)

-- UT-6: from the place i on to the place j of s all is valid: how far s is valid is the same, read from either place.
pub record Passed (s : List ℕ) (i j : ℕ) : Type 0 where
  pub within : j ≤ length s
  pub onward : i ≤ j
  pub same : i + valid_up_to (drop i s) ≡ j + valid_up_to (drop j s)

-- UT-6: how many bytes a sequence has, as the size that is found; none is found where none starts, which is size 0.
abbrev pub Sized : Option ℕ → ℕ → Type 0
Sized found size = MatchOption found (size ≡ 0) (λ k. (0 < k) × (k ≡ size))
