-- The first finding from track t on is the first of all.
use Rattle.std.proofs.Common.{◌≡◌, ◌-◌}
use Rattle.refusals.specs.Search.{first_from}
use Rattle.scp_tracks.specs.Tracks.{track_fault, tracks_fault_in}
use Rattle.scp_open.proofs.tracks_fault.Given as goal

abbrev pub invariant-loop-t : goal.invariant-loop-t
invariant-loop-t l = first_from (track_fault l.edition l.image) l.t (l.end - l.t) ≡ tracks_fault_in l.edition l.image l.from l.to
