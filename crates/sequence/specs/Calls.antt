-- Calls and answers as a lent list of numbers holds them: a call is a row of 7 numbers, an answer a row of 16.
use Rattle.std.specs.Prelude.{ℕ, zero, suc, ◌+◌, ◌*◌, ◌/◌, ◌%◌, List, [], ◌∷◌, ◌++◌, cond, length, drop, get_or, eqb, leb}
use Rattle.scp_fields.specs.declared.Edition.{Edition}
use Rattle.scp_fields.specs.Editions.{edition_of}
use Rattle.scp.specs.Answers.{Answer}
use Rattle.scp_book.specs.Book.{Call, ask, rewrite}
use Rattle.copies.specs.Copying.{part}
use Rattle.scp_rows.specs.Rows.{question_of, row_of}

-- ---- a row of 7 numbers: kind, track, revolution, duration, start and length of its words, edition

-- S-13: how many numbers a call has.
abbrev pub call_size : ℕ
call_size = 7

-- S-14, V-5: the call of a kind, by the edition v: 8 a rewrite, or a question.
unfoldable pub call_of : Edition → ℕ → ℕ → ℕ → ℕ → List ℕ → Call
call_of v kind t k d ws = cond (eqb kind 8) (rewrite v t k d ws) (ask v (question_of kind t k))

-- S-15: a track or revolution above 4,294,967,295 counts as that.
abbrev pub capped : ℕ → ℕ
capped n = cond (leb n 4_294_967_295) n 4_294_967_295

-- S-13: the number j of row i.
abbrev pub field : List ℕ → ℕ → ℕ → ℕ
field calls i j = get_or calls (call_size * i + j) 0

-- S-13, S-15, V-1: the call of row i: a duration counts modulo 2^32, a part that runs past `words` is cut, and 14 names the edition 1.4.
unfoldable pub call_at : List ℕ → List ℕ → ℕ → Call
call_at calls words i =
    call_of (edition_of (field calls i 6)) (field calls i 0) (capped (field calls i 1)) (capped (field calls i 2)) (field calls i 3 % 4_294_967_296)
    (part words (field calls i 4) (field calls i 5))

-- S-13: the calls of n rows from row i on.
unfoldable pub calls_from : List ℕ → List ℕ → ℕ → ℕ → List Call
calls_from calls words i zero = []
calls_from calls words i (suc n) = call_at calls words i ∷ calls_from calls words (i + 1) n

-- S-13: all calls: numbers after the last whole row are ignored.
abbrev pub calls_of : List ℕ → List ℕ → List Call
calls_of calls words = calls_from calls words 0 (length calls / call_size)

-- ---- the answers

-- S-20: the rows of answers, one after the other.
unfoldable pub rows_of : List Answer → List ℕ
rows_of [] = []
rows_of (a ∷ rest) = row_of a ++ rows_of rest

-- S-20: places after answers were put to them: the rows of the answers, and behind them what stood there.
abbrev pub places_after : List Answer → List ℕ → List ℕ
places_after said places = rows_of said ++ drop (length (rows_of said)) places
