-- No more intervals are counted than steps are made; and of flux that is not refused by its length, what is counted before the word and the words
-- from there on make up the whole, and the steps that are left are enough for these.
use Rattle.std.proofs.Common.{◌≡◌, false, length, ◌-◌, ◌≤◌}
use Rattle.flux.specs.Coding.{bad_flux_size}
use Rattle.scp_listing.proofs.Counting.{Left}
use Rattle.scp_listing.proofs.count_flux.Given as goal

abbrev pub invariant-loop : goal.invariant-loop
invariant-loop l = (l.intervals ≤ l.counter) × (bad_flux_size (length l.flux) ≡ false → Left l.flux l.cursor.word l.intervals l.last (l.end - l.counter))
