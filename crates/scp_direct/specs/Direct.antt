-- The direct calls: what refuses them, in its order (DI-1, DI-2), and what they answer (DI-3 to DI-5). They look at the header, one entry of the
-- table, that track's header and the records of its revolutions.
use Rattle.std.specs.Prelude.{ℕ, List, Result, Ok, Err}
use Rattle.refusals.specs.Refusals.{Fault, first_of}
use Rattle.refusals.specs.Refusals as refusals
use Rattle.scp_fields.specs.declared.Edition.{Edition}
use Rattle.scp_fields.specs.Header.{track_entry}
use Rattle.scp_header.specs.HeaderFault.{header_fault}
use Rattle.scp_tracks.specs.Tracks.{track_fault}
use Rattle.scp_tracks.specs.Revolutions.{data_of, revolution_fault}
use Rattle.scp_tracks.specs.declared.RevolutionData.{RevolutionData}
use Rattle.scp_lookup.specs.Questions.{absent_then}
use Rattle.scp_lookup.specs.Lookups.{part_of, start_of}
use Rattle.scp.specs.Answers.{Answer, bytes, unless, track_values, revolution_values}

-- ---- what refuses

-- DI-1: a direct call on track t: 1 to 6, then 13, then 9, 10 and 11 of this track.
unfoldable pub direct_track_question : Edition → List ℕ → ℕ → Fault
direct_track_question v b t = first_of (header_fault v b) (absent_then v b t (track_fault v b t))

-- DI-2: a direct call on revolution k of track t: these, then 14.
unfoldable pub direct_revolution_question : Edition → List ℕ → ℕ → ℕ → Fault
direct_revolution_question v b t k = first_of (direct_track_question v b t) (revolution_fault b k)

-- ---- what is found

-- DI-1: the entry of track t, or what refuses it.
unfoldable pub direct_entry : Edition → List ℕ → ℕ → Result ℕ Fault
direct_entry v b t = refusals.unless (direct_track_question v b t) (Ok (track_entry b t)) Err

-- DI-2: the numbers of revolution k of track t, or what refuses it.
unfoldable pub direct_found : Edition → List ℕ → ℕ → ℕ → Result RevolutionData Fault
direct_found v b t k =
    refusals.unless (direct_revolution_question v b t k) (Ok (data_of b (track_entry b t) k)) Err

-- ---- what is answered

-- DI-3: the values of track t as the full call gives them, or what refuses it.
unfoldable pub direct_track : Edition → List ℕ → ℕ → Answer
direct_track v b t = unless (direct_track_question v b t) (track_values b t)

-- DI-4: the values of revolution k of track t as the full call gives them, or what refuses it.
unfoldable pub direct_revolution : Edition → List ℕ → ℕ → ℕ → Answer
direct_revolution v b t k = unless (direct_revolution_question v b t k) (revolution_values b t k)

-- DI-5: the part of the image that is its flux; the empty part where the revolution is refused.
abbrev pub direct_part : Edition → List ℕ → ℕ → ℕ → List ℕ
direct_part v b t k = part_of b (direct_found v b t k)

-- DI-5: where that part starts; 0 where the revolution is refused.
abbrev pub direct_start : Edition → List ℕ → ℕ → ℕ → ℕ
direct_start v b t k = start_of (direct_found v b t k)

-- DI-5: where the flux starts, and its bytes; the number and position where the revolution is refused.
abbrev pub direct_flux : Edition → List ℕ → ℕ → ℕ → Answer
direct_flux v b t k = unless (direct_revolution_question v b t k) (bytes (direct_start v b t k) (direct_part v b t k))
