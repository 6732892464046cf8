-- The sequence at an index is told by the four bytes from there on.
use Rattle.std.proofs.Common.{◌≡◌, ℕ, [], ◌∷◌, slice_index, drop, sym, subst, arith}
use Rattle.utf8.specs.Table.{sequence_size}
use Rattle.utf8.specs.Reading.{Sized}
use Rattle.utf8.proofs.Rows.{size_at}
use Rattle.utf8.proofs.size_at.Goals as goal

pub returns-then-text-at-ge4 : goal.returns-then-text-at-ge4
returns-then-text-at-ge4 c =
    let a = c.args in
    subst (λ (n : ℕ). Sized c.size_of.result n) (sym (size_at a.text.now a.at (omega arith))) c.size_of.ensures

pub returns : goal.returns
returns c =
    let a = c.args in
    let four = size_at a.text.now a.at (omega arith) in
    let read : sequence_size (slice_index a.text.now a.at ∷ c.byte.result ∷ c.byte-2.result ∷ c.byte-3.result ∷ []) ≡ sequence_size (drop a.at a.text.now) = cc in
    subst (λ (n : ℕ). Sized c.size_of-2.result n) read c.size_of-2.ensures
