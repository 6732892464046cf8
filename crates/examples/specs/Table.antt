-- The examples X-3 to X-7 in one table (X-2), which proofs/ proves.
use Rattle.std.specs.Prelude.{ℕ, ◌≡◌, List, [], ◌∷◌, length}
use Rattle.octets.specs.Sums.{byte_sum}
use Rattle.scp_tracks.specs.Tracks.{cylinder_of, head_of}
use Rattle.flux.specs.Answers.{time_refused, fills, refuses, reading, writing}

-- X-2: an example: what is given, and what the rules say of it.
pub data Example : Type 0 where
  -- X-3: flux bytes, their intervals and their open time
  reads : List ℕ → List ℕ → ℕ → Example
  -- X-4: a time and the bytes of its words
  writes : ℕ → List ℕ → Example
  -- X-5: a time that is refused
  refuses_time : ℕ → Example
  -- X-7: bytes and their sum
  sums : List ℕ → ℕ → Example
  -- X-6: a track number, its cylinder and its head
  tracks : ℕ → ℕ → ℕ → Example

-- X-2: what an example says, in the definitions that the promises use: with just as many places as its answer takes, or with any number
-- of places where it is refused.
abbrev pub Says : Example → Type 0
Says (reads s ts o) = reading s (length ts) ≡ fills (length ts ∷ o ∷ []) ts
Says (writes t s) = writing (t ∷ []) (length s) ≡ fills (length s ∷ []) s
Says (refuses_time t) = (places : ℕ) → writing (t ∷ []) places ≡ refuses time_refused 0
Says (sums s n) = byte_sum s ≡ n
Says (tracks t c h) = (cylinder_of t ≡ c) × (head_of t ≡ h)

-- X-2: every example of a list holds.
abbrev pub AllSay : List Example → Type 0
AllSay [] = Unit {0}
AllSay (e ∷ es) = Says e × AllSay es

-- X-2: the table: flux (X-3), words of times (X-4), refused times (X-5), tracks (X-6), a sum (X-7).
abbrev pub starred : List Example
starred =
    reads [] [] 0
    ∷ reads (0x00 ∷ 0x00 ∷ []) [] 65_536
    ∷ reads (0x00 ∷ 0x00 ∷ 0x00 ∷ 0x00 ∷ 0x7F ∷ 0xFF ∷ []) (163_839 ∷ []) 0
    ∷ reads (0xFF ∷ 0xFF ∷ []) (65_535 ∷ []) 0
    ∷ reads (0x00 ∷ 0x00 ∷ 0x00 ∷ 0x01 ∷ []) (65_537 ∷ []) 0
    ∷ reads (0x00 ∷ 0xA0 ∷ 0x00 ∷ 0x00 ∷ 0x00 ∷ 0x01 ∷ 0x00 ∷ 0xF0 ∷ []) (160 ∷ 65_537 ∷ 240 ∷ []) 0
    ∷ writes 65_537 (0x00 ∷ 0x00 ∷ 0x00 ∷ 0x01 ∷ [])
    ∷ writes 131_071 (0x00 ∷ 0x00 ∷ 0xFF ∷ 0xFF ∷ [])
    ∷ refuses_time 0
    ∷ refuses_time 65_536
    ∷ tracks 0x0B 5 1
    ∷ tracks 0x50 40 0
    ∷ sums (0xFF ∷ 0xFF ∷ 0xFF ∷ 0xFF ∷ []) 1_020
    ∷ []
