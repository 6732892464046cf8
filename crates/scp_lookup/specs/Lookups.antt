-- A track or a revolution as it is looked up: what is found, or what refuses it (RO-6); and what is answered of what was found.
use Rattle.std.specs.Prelude.{ℕ, ◌*◌, List, [], Result, Ok, Err}
use Rattle.refusals.specs.Refusals.{Fault, unless}
use Rattle.copies.specs.Copying.{part, part_start}
use Rattle.scp_fields.specs.declared.Edition.{Edition}
use Rattle.scp_fields.specs.Header.{revolutions, track_entry}
use Rattle.scp_tracks.specs.Tracks.{cylinder_of, head_of}
use Rattle.scp_tracks.specs.Revolutions.{data_of, revolution_fault}
use Rattle.scp_tracks.specs.declared.RevolutionData.{RevolutionData}
use Rattle.scp_lookup.specs.Questions.{track_question, revolution_question}
use Rattle.scp_lookup.specs.declared.TrackData.{TrackData}

-- RO-6, R-13: the entry of track t, or what refuses it: 1 to 11 and 19, then 13.
unfoldable pub found_track : Edition → List ℕ → ℕ → Result ℕ Fault
found_track v b t = unless (track_question v b t) (Ok (track_entry b t)) Err

-- RO-6, T-6: the numbers of revolution k of track t, or what refuses it: 1 to 11 and 19, then 13, then 14.
unfoldable pub found_revolution : Edition → List ℕ → ℕ → ℕ → Result RevolutionData Fault
found_revolution v b t k =
    unless (revolution_question v b t k) (Ok (data_of b (track_entry b t) k)) Err

-- ---- what is answered of what was found

-- T-5: track t with its header at e: cylinder, head, file offset of its header, revolutions.
abbrev pub track_data : List ℕ → ℕ → ℕ → TrackData
track_data b t e = record { cylinder = cylinder_of t; head = head_of t; offset = record { 0 = e }; revolutions = revolutions b }

-- T-5: of track t, whose entry was found or refused.
abbrev pub track_on : List ℕ → ℕ → Result ℕ Fault → Result TrackData Fault
track_on b t (Ok e) = Ok (track_data b t e)
track_on b t (Err r) = Err r

-- T-6, R-14: of revolution k of a track whose entry was found or refused: its numbers, or 14.
abbrev pub revolution_on : List ℕ → ℕ → Result ℕ Fault → Result RevolutionData Fault
revolution_on b k (Ok e) = unless (revolution_fault b k) (Ok (data_of b e k)) Err
revolution_on b k (Err r) = Err r

-- T-7: the part of the image that is a revolution's flux.
abbrev pub flux_of : List ℕ → RevolutionData → List ℕ
flux_of b d = part b d.offset.0 (2 * d.words)

-- T-7: the flux as that part of the caller's image; the empty part at offset 0 where the revolution is refused.
abbrev pub part_of : List ℕ → Result RevolutionData Fault → List ℕ
part_of b (Ok d) = flux_of b d
part_of b (Err r) = []

-- T-7: the file offset at which the part starts, 0 where the revolution is refused.
abbrev pub start_of : Result RevolutionData Fault → ℕ
start_of (Ok d) = d.offset.0
start_of (Err r) = 0

-- T-7: that offset for any numbers: 0, too, where it lies past the image.
abbrev pub start_in : List ℕ → Result RevolutionData Fault → ℕ
start_in b (Ok d) = part_start b d.offset.0
start_in b (Err r) = 0
