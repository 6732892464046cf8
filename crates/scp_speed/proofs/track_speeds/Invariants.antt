-- The longest so far and that of the revolutions from k on is the longest of all; so is the shortest.
use mathlib.Core.Path.{◌≡◌}
use Prim.Native.Nat.{◌-◌, max}
use Rattle.scp_tracks.specs.Tracks.{duration_at}
use Rattle.scp_speed.specs.Durations.{longest_from, shorter, shortest_from}
use Rattle.scp_speed.specs.Speeds.{longest, shortest}
use Rattle.scp_speed.proofs.track_speeds.Given as goal

abbrev pub invariant-loop-k : goal.invariant-loop-k
invariant-loop-k l =
    (max l.most (longest_from (duration_at l.image l.header) l.k (l.n - l.k)) ≡ longest l.image l.header)
    × (shorter l.least (shortest_from (duration_at l.image l.header) l.k (l.n - l.k)) ≡ shortest l.image l.header)
