-- Every answer's row has 16 numbers.
use Prim.Native.Nat.{ℕ, ◌≤◌}
use mathlib.Core.Path.{◌≡◌}
use mathlib.Core.List.{List, [], ◌∷◌, ◌++◌, map}
use native.Mathlib.Omega.{arith}
use lib.ListN.{length, replicate, length-append}
use lib.Seq.{length-take-le}
use lib.Ieee.{binary64, to_bits}
use Rattle.octets.specs.Numbers.{unsigned64}
use Rattle.octets.specs.Sums.{byte_sum}
use Rattle.scp.specs.Answers.{Answer, refused, none, numbers, footer, speeds, bytes}
use Rattle.scp_rows.specs.Rows.{padded, row_of}

padded_length : (vs : List ℕ) → length (padded vs) ≡ 16
padded_length vs =
    let whole = length-append vs (replicate 16 0) in
    let h : 16 ≤ length (vs ++ replicate 16 0) = omega arith in
    length-take-le 16 (vs ++ replicate 16 0) h

pub row_length : (a : Answer) → length (row_of a) ≡ 16
row_length (refused n p) = padded_length (n ∷ p ∷ [])
row_length none = padded_length []
row_length (numbers vs) = padded_length (0 ∷ 0 ∷ vs)
row_length (footer os ts vs) = padded_length (0 ∷ 0 ∷ 1 ∷ (os ++ (map unsigned64 ts ++ vs)))
row_length (speeds xs) = padded_length (0 ∷ 0 ∷ 1 ∷ map (to_bits binary64) xs)
row_length (bytes start b) = padded_length (0 ∷ 0 ∷ start ∷ length b ∷ byte_sum b ∷ [])
