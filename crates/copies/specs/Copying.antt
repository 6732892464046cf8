-- A list copied into a buffer, and a part of a list.
use Rattle.std.specs.Prelude.{ℕ, ◌+◌, List, Bool, cond, length, take, drop, leb}
use Rattle.std.proofs.lemmas.List.Edits.{sets}

-- RO-10: the values vs fit into the buffer l from index i on.
abbrev pub fits_at : {A : Type 0} → List A → ℕ → List A → Bool
fits_at l i vs = leb (i + length vs) (length l)

-- RO-10: the buffer l with the values vs from index i on: all of them, or none where they do not all fit.
abbrev pub copied_at : {A : Type 0} → List A → ℕ → List A → List A
copied_at l i vs = cond (fits_at l i vs) (sets l i vs) l

-- S-15, T-7: n elements from a start on; a part that runs past the end is cut.
abbrev pub part : List ℕ → ℕ → ℕ → List ℕ
part l start n = take n (drop start l)

-- S-15, T-7: where that part starts: 0 where the start is past the end, and the part empty.
abbrev pub part_start : List ℕ → ℕ → ℕ
part_start l start = cond (leb start (length l)) start 0
