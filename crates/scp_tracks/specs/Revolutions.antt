-- A revolution as it is handed out: absent, or present with its numbers; and what refuses it.
use Rattle.std.specs.Prelude.{ℕ, ◌+◌, List, cond, ltb, leb, Option, Some, None}
use Rattle.refusals.specs.Refusals.{Fault, none, refusal, refuse_if}
use Rattle.scp_fields.specs.Header.{revolutions}
use Rattle.scp_tracks.specs.Tracks.{duration_at, count_at, distance_at}
use Rattle.scp_tracks.specs.declared.RevolutionData.{RevolutionData}

-- T-6, L-16: the numbers of a record of the track data header at e: duration d, w words, and flux that starts `by` bytes from the header.
abbrev pub record_of : ℕ → ℕ → ℕ → ℕ → RevolutionData
record_of e d w by = record { duration = d; words = w; offset = record { 0 = e + by } }

-- The numbers of revolution k of the track data header at e: duration, count of words, file offset of its flux (T-6).
abbrev pub data_of : List ℕ → ℕ → ℕ → RevolutionData
data_of b e k = record_of e (duration_at b e k) (count_at b e k) (distance_at b e k)

-- Present where k is below the number of revolutions (T-6).
unfoldable pub revolution_of : List ℕ → ℕ → ℕ → Option RevolutionData
revolution_of b e k = cond (ltb k (revolutions b)) (Some (data_of b e k)) None

-- Number of each case: an absent revolution is refused with 14 at position 0, a present one by nothing (T-6, R-14).
abbrev pub of_presence : Option RevolutionData → Fault
of_presence None = refusal 14 0
of_presence (Some d) = none

-- 14 Revolution: the revolution asked for is not below the number of revolutions (R-14).
abbrev pub revolution_fault : List ℕ → ℕ → Fault
revolution_fault b k = refuse_if (leb (revolutions b) k) (refusal 14 0) none
