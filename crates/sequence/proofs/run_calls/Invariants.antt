-- The loop's invariant: the calls from row i on, made on the image as it stands, end in the final bytes, and their rows are still to be
-- written.
use mathlib.Core.Path.{◌≡◌}
use Prim.Native.Nat.{◌-◌, ◌*◌, ◌≤◌}
use lib.ListN.{length}
use Rattle.flux.proofs.Wrote.{Wrote}
use Rattle.scp_book.specs.Book as book
use Rattle.scp_book.specs.Book.{final_bytes}
use Rattle.sequence.specs.Calls.{calls_from, rows_of}
use Rattle.sequence.proofs.run_calls.Given as goal

abbrev pub invariant-loop-i : goal.invariant-loop-i
invariant-loop-i l = (l.i ≤ l.n)
    × (16 * l.n ≤ length l.initial.answers)
    × (length l.image ≡ length l.initial.image)
    × (final_bytes l.image (calls_from l.calls l.words l.i (l.n - l.i)) ≡ final_bytes l.initial.image (calls_from l.calls l.words 0 l.n))
    × Wrote l.initial.answers l.answers (16 * l.i) (rows_of (book.answers l.image (calls_from l.calls l.words l.i (l.n - l.i))))
    (rows_of (book.answers l.initial.image (calls_from l.calls l.words 0 l.n)))

abbrev pub decreases-loop-i : goal.decreases-loop-i
decreases-loop-i l = l.n - l.i
