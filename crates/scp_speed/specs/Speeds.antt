-- Drive speed, of a revolution from its duration, of a track from its longest and its shortest.
use Rattle.std.specs.Prelude.{ℕ, cond, List, eqb, pos, Float, Option, Some, None}
use Rattle.std.specs.Float.{binary64}
use Rattle.std.specs.Float.Ieee.{div, of_int}
use Rattle.scp_fields.specs.Header.{revolutions}
use Rattle.scp_tracks.specs.Tracks.{duration_at}
use Rattle.scp_speed.specs.Durations.{longest_from, shortest_from}
use Rattle.scp_speed.specs.declared.TrackSpeeds.{TrackSpeeds}

-- The speed in rpm of a duration in ticks: one division of two numbers that are made floats first (T-10, T-11).
abbrev pub rpm_of : ℕ → Float
rpm_of d = div binary64 (of_int binary64 (pos 2_400_000_000)) (of_int binary64 (pos d))

-- A speed, or the plain fact that there is none, which is so for duration 0 (T-10).
unfoldable pub speed_of : ℕ → Option Float
speed_of d = cond (eqb d 0) None (Some (rpm_of d))

-- The longest duration of the revolutions of the track data header at e (T-12).
abbrev pub longest : List ℕ → ℕ → ℕ
longest b e = longest_from (duration_at b e) 0 (revolutions b)

-- The shortest that is not 0; 0 where all are (T-12).
abbrev pub shortest : List ℕ → ℕ → ℕ
shortest b e = shortest_from (duration_at b e) 0 (revolutions b)

-- The speeds of the track data header at e: the slowest from the longest duration, the fastest from the shortest that is not 0, or none if
-- all are 0 (T-12).
unfoldable pub speeds_of : List ℕ → ℕ → Option TrackSpeeds
speeds_of b e =
    cond (eqb (longest b e) 0) None
    (Some (record { slowest = rpm_of (longest b e); fastest = rpm_of (shortest b e) }))
