-- What each call on an image answers, by the edition that it names: a definition gives the number and the values of each case (A-2).
use Rattle.std.specs.Prelude.{ℕ, ◌+◌, min, List, [], ◌∷◌, cond, length, eqb, ℤ, Float, Result, Ok, Err, Option, Some}
use Rattle.std.specs.Prelude as std
use Rattle.flux.specs.Answers.{Filling, refuses, reading, closing_reading}
use Rattle.octets.specs.Numbers.{byte_at, le64_at}
use Rattle.refusals.specs.Refusals.{Fault, passes}
use Rattle.scp_fields.specs.declared.Edition.{Edition}
use Rattle.scp_fields.specs.Header.{version, disk, revolutions, start_track, end_track, flags, has_footer, width, heads, stored_sum, track_entry}
use Rattle.scp_fields.specs.Footer.{footer_at, string_entry}
use Rattle.scp_open.specs.declared.Header.{Header}
use Rattle.scp_tracks.specs.Tracks.{cylinder_of, head_of, duration_at, count_at, flux_at}
use Rattle.scp_open.specs.Opening.{open_fault}
use Rattle.scp_speed.specs.Speeds.{rpm_of, speeds_of}
use Rattle.scp_lookup.specs.Questions.{track_question, revolution_question}
use Rattle.scp_lookup.specs.Lookups.{found_revolution, flux_of, part_of, start_of}
use Rattle.scp.specs.Validating.{validate_fault}
use Rattle.scp.specs.declared.FooterData.{FooterData}
use Rattle.scp_lookup.specs.declared.TrackData.{TrackData}
use Rattle.scp_tracks.specs.declared.RevolutionData.{RevolutionData}
use Rattle.scp_speed.specs.declared.TrackSpeeds.{TrackSpeeds}

-- A-2: an answer: a refusal's number and position; the plain fact that there is none; or values. Bytes are a part of the image: the file
-- offset where it starts, and its bytes.
pub data Answer : Type 0 where
  refused : ℕ → ℕ → Answer
  none : Answer
  numbers : List ℕ → Answer
  footer : List ℕ → List ℤ → List ℕ → Answer
  speeds : List Float → Answer
  bytes : ℕ → List ℕ → Answer

-- T-14: the answer a, unless f refuses.
abbrev pub unless : Fault → Answer → Answer
unless f a = cond (passes f) a (refused f.number f.position)

-- ---- validating

-- A-6: number and values of each case of validating.
abbrev pub of_validated : Result Unit Fault → Answer
of_validated (Ok u) = numbers []
of_validated (Err r) = refused r.number r.position

-- R-12, T-14: validating gives no values.
abbrev pub validate_answer : Edition → List ℕ → Answer
validate_answer v b = unless (validate_fault v b) (numbers [])

-- ---- the header

-- T-3: the nine numbers of a header.
abbrev pub header_numbers : Header → List ℕ
header_numbers h =
    h.version ∷ h.disk ∷ h.revolutions ∷ h.start ∷ h.end ∷ h.flags ∷ h.width ∷ h.heads ∷ h.checksum ∷ []

-- A-7: number and values of each case of the header.
abbrev pub of_header : Result Header Fault → Answer
of_header (Ok h) = numbers (header_numbers h)
of_header (Err r) = refused r.number r.position

-- T-3, C-5: version, disk type, revolutions, start, end, flags, width, heads, checksum.
unfoldable pub header_answer : Edition → List ℕ → Answer
header_answer v b =
    unless (open_fault v b)
    (numbers
    (version b ∷ disk b ∷ revolutions b ∷ start_track b ∷ end_track b ∷ flags b ∷ width b ∷ heads b ∷ stored_sum b ∷ []))

-- ---- the footer

-- T-4: six offsets, two times and four version bytes.
abbrev pub of_footer_data : FooterData → Answer
of_footer_data f =
    footer (f.maker ∷ f.model ∷ f.serial ∷ f.creator ∷ f.application ∷ f.comments ∷ [])
    (f.created ∷ f.modified ∷ [])
    (f.software ∷ f.hardware ∷ f.firmware ∷ f.format ∷ [])

-- A-8: number and values of each case of the footer.
abbrev pub of_footer : Result (Option FooterData) Fault → Answer
of_footer (Ok (Some f)) = of_footer_data f
of_footer (Ok std.None) = none
of_footer (Err r) = refused r.number r.position

-- T-4: the footer: its six offsets, two times and four version bytes.
unfoldable pub footer_values : List ℕ → Answer
footer_values b =
    footer
    (string_entry b 0 ∷ string_entry b 1 ∷ string_entry b 2 ∷ string_entry b 3 ∷ string_entry b 4 ∷ string_entry b 5 ∷ [])
    (le64_at b (footer_at b + 0x18) ∷ le64_at b (footer_at b + 0x20) ∷ [])
    (byte_at b (footer_at b + 0x28) ∷ byte_at b (footer_at b + 0x29) ∷ byte_at b (footer_at b + 0x2A) ∷ byte_at b (footer_at b + 0x2B) ∷ [])

-- T-4, C-6: that, or the plain fact that there is none.
unfoldable pub footer_answer : Edition → List ℕ → Answer
footer_answer v b = unless (open_fault v b) (cond (has_footer v b) (footer_values b) none)

-- ---- a track

-- A-9: number and values of each case of a track.
abbrev pub of_track : Result TrackData Fault → Answer
of_track (Ok d) = numbers (d.cylinder ∷ d.head ∷ d.offset.0 ∷ d.revolutions ∷ [])
of_track (Err r) = refused r.number r.position

-- T-5, C-7: the values of track t: cylinder, head, file offset of its header, revolutions.
abbrev pub track_values : List ℕ → ℕ → Answer
track_values b t = numbers (cylinder_of t ∷ head_of t ∷ track_entry b t ∷ revolutions b ∷ [])

-- T-5: these, or what refuses the track.
unfoldable pub track_answer : Edition → List ℕ → ℕ → Answer
track_answer v b t = unless (track_question v b t) (track_values b t)

-- ---- a revolution

-- A-10: number and values of each case of a revolution.
abbrev pub of_revolution : Result RevolutionData Fault → Answer
of_revolution (Ok d) = numbers (d.duration ∷ d.words ∷ d.offset.0 ∷ [])
of_revolution (Err r) = refused r.number r.position

-- T-6, C-8: the values of revolution k of track t: duration, count of words, file offset of its flux.
abbrev pub revolution_values : List ℕ → ℕ → ℕ → Answer
revolution_values b t k = numbers (duration_at b (track_entry b t) k ∷ count_at b (track_entry b t) k ∷ flux_at b (track_entry b t) k ∷ [])

-- T-6: these, or what refuses the revolution.
unfoldable pub revolution_answer : Edition → List ℕ → ℕ → ℕ → Answer
revolution_answer v b t k = unless (revolution_question v b t k) (revolution_values b t k)

-- ---- its flux

-- T-7: the part that is the flux of revolution k of track t.
abbrev pub flux_part : Edition → List ℕ → ℕ → ℕ → List ℕ
flux_part v b t k = part_of b (found_revolution v b t k)

-- T-7: where that part starts.
abbrev pub flux_start : Edition → List ℕ → ℕ → ℕ → ℕ
flux_start v b t k = start_of (found_revolution v b t k)

-- T-7, S-17: where the flux starts, and its bytes; the number and position where the revolution is refused.
abbrev pub flux_answer : Edition → List ℕ → ℕ → ℕ → Answer
flux_answer v b t k = unless (revolution_question v b t k) (bytes (flux_start v b t k) (flux_part v b t k))

-- ---- speeds

-- T-10: a speed in rpm, or none.
abbrev pub of_speed_only : Option Float → Answer
of_speed_only (Some x) = speeds (x ∷ [])
of_speed_only std.None = none

-- A-11: number and values of each case of a speed.
abbrev pub of_speed : Result (Option Float) Fault → Answer
of_speed (Ok s) = of_speed_only s
of_speed (Err r) = refused r.number r.position

-- T-10, C-10: a speed in rpm, or the plain fact that there is none, which is so for duration 0.
unfoldable pub speed_answer : Edition → List ℕ → ℕ → ℕ → Answer
speed_answer v b t k =
    unless (revolution_question v b t k)
    (cond (eqb (duration_at b (track_entry b t) k) 0) none (speeds (rpm_of (duration_at b (track_entry b t) k) ∷ [])))

-- A-12: number and values of each case of the speeds of a track.
abbrev pub of_track_speed : Result (Option TrackSpeeds) Fault → Answer
of_track_speed (Ok (Some s)) = speeds (s.slowest ∷ s.fastest ∷ [])
of_track_speed (Ok std.None) = none
of_track_speed (Err r) = refused r.number r.position

-- T-12: number and values of each case of a track's speeds.
abbrev pub of_speed_range : Option TrackSpeeds → Answer
of_speed_range (Some s) = speeds (s.slowest ∷ s.fastest ∷ [])
of_speed_range std.None = none

-- T-12, C-10: the slowest and the fastest speed, of the longest and the shortest duration that is not 0, or none if all are 0.
unfoldable pub track_speed_answer : Edition → List ℕ → ℕ → Answer
track_speed_answer v b t = unless (track_question v b t) (of_speed_range (speeds_of b (track_entry b t)))

-- ---- its intervals at one go

-- T-9, T-15: what `read` gives of the flux of a revolution, into so many places; or what refuses the revolution.
abbrev pub read_from : (List ℕ → ℕ → Filling) → List ℕ → ℕ → Result RevolutionData Fault → Filling
read_from read b places (Ok d) = read (flux_of b d) places
read_from read b places (Err r) = refuses r.number r.position

-- T-9: the intervals of revolution k of track t, into so many places.
abbrev pub revolution_reading : Edition → List ℕ → ℕ → ℕ → ℕ → Filling
revolution_reading v b t k places = read_from reading b places (found_revolution v b t k)

-- T-15: the intervals of revolution k of track t into the times, where their closing words go to the closings: into as many places as both
-- lists have.
abbrev pub revolution_closed_times : Edition → List ℕ → ℕ → ℕ → List ℕ → List ℕ → Filling
revolution_closed_times v b t k times closings = revolution_reading v b t k (min (length times) (length closings))

-- T-15: and the numbers of their closing words into the closings.
abbrev pub revolution_closed_numbers : Edition → List ℕ → ℕ → ℕ → List ℕ → List ℕ → Filling
revolution_closed_numbers v b t k times closings = read_from closing_reading b (min (length times) (length closings)) (found_revolution v b t k)
