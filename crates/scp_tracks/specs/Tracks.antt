-- Tracks, revolutions and their flux (L-13 to L-16, L-18), and refusals 9 to 11.
use Rattle.std.specs.Prelude.{ℕ, ◌+◌, ◌-◌, ◌*◌, ◌/◌, ◌%◌, List, Bool, not, ◌&&◌, ◌||◌, cond, eqb, ltb, leb}
use Rattle.octets.specs.Numbers.{byte_at, le32_at}
use Rattle.refusals.specs.Refusals.{Fault, none, refusal, refuse_if}
use Rattle.refusals.specs.Search.{any_from, first_from}
use Rattle.scp_fields.specs.declared.Edition.{Edition}
use Rattle.scp_fields.specs.Editions.{slots, table_end}
use Rattle.scp_fields.specs.Header.{revolutions, start_track, end_track, heads, track_entry, data_end}

-- L-14: a track's cylinder is its number / 2.
abbrev pub cylinder_of : ℕ → ℕ
cylinder_of t = t / 2

-- L-14: a track's head is the remainder of its number / 2.
abbrev pub head_of : ℕ → ℕ
head_of t = t % 2

-- L-16: the file offset of a distance d from the track data header at h: the exact sum, or the largest number where 64 bits do not hold it.
abbrev pub offset_of : ℕ → ℕ → ℕ
offset_of h d = cond (leb (h + d) 18_446_744_073_709_551_615) (h + d) 18_446_744_073_709_551_615

-- L-15: where the record of revolution k stands in its track data header: behind "TRK", the number and the records before it.
abbrev pub record_offset : ℕ → ℕ
record_offset k = 4 + 12 * k

-- L-15: a track data header takes 4 + 12R bytes.
abbrev pub header_size : List ℕ → ℕ
header_size b = record_offset (revolutions b)

-- ---- a revolution of the track data header at file offset e

-- L-15: where the 12 bytes of revolution k start: duration, count of words, distance of the flux from the "T".
abbrev pub revolution_at : ℕ → ℕ → ℕ
revolution_at e k = e + record_offset k

-- L-15: the duration of revolution k in ticks.
abbrev pub duration_at : List ℕ → ℕ → ℕ → ℕ
duration_at b e k = le32_at b (revolution_at e k)

-- L-15: the count of its words.
abbrev pub count_at : List ℕ → ℕ → ℕ → ℕ
count_at b e k = le32_at b (revolution_at e k + 4)

-- L-15: the distance of its flux from the "T".
abbrev pub distance_at : List ℕ → ℕ → ℕ → ℕ
distance_at b e k = le32_at b (revolution_at e k + 8)

-- L-16, N-8: the file offset of its flux: the exact sum, never wrapped.
abbrev pub flux_at : List ℕ → ℕ → ℕ → ℕ
flux_at b e k = e + distance_at b e k

-- ---- refusals 9 to 11

-- R-9, L-8, L-13: track t is below the start track, above the end track, or on a side that is not held.
abbrev pub bad_slot : List ℕ → ℕ → Bool
bad_slot b t =
    ltb t (start_track b) || (ltb (end_track b) t
    || ((eqb (heads b) 1 && eqb (head_of t) 1) || (eqb (heads b) 2 && eqb (head_of t) 0)))

-- R-10: the four bytes at e are not "TRK" and the number t.
abbrev pub bad_mark : List ℕ → ℕ → ℕ → Bool
bad_mark b e t =
    not (eqb (byte_at b e) 0x54 && (eqb (byte_at b (e + 1)) 0x52 && (eqb (byte_at b (e + 2)) 0x4B && eqb (byte_at b (e + 3)) t)))

-- R-10: the track data header of track t, whose entry is e, is below the table's end, ends above E, does not start with "TRK", or has another
-- number.
unfoldable pub bad_track : Edition → List ℕ → ℕ → ℕ → Bool
bad_track v b e t = ltb e (table_end v) || (ltb (data_end v b) (e + header_size b) || bad_mark b e t)

-- R-11, L-18: the 2 x count bytes of revolution k end above `end`; with count 0, its flux starts above it.
abbrev pub flux_past : ℕ → List ℕ → ℕ → ℕ → Bool
flux_past end b e k = ltb end (flux_at b e k + 2 * count_at b e k)

-- R-11: the flux of a revolution of the track data header at e ends above E.
abbrev pub bad_flux : Edition → List ℕ → ℕ → Bool
bad_flux v b e = any_from (flux_past (data_end v b) b e) 0 (revolutions b)

-- RO-4: track t, whose entry is e: 9, then 10, then 11; none where e is 0.
unfoldable pub track_fault_at : Edition → List ℕ → ℕ → ℕ → Fault
track_fault_at v b e t =
    refuse_if (eqb e 0) none
    (refuse_if (bad_slot b t) (refusal 9 t)
    (refuse_if (bad_track v b e t) (refusal 10 t)
    (refuse_if (bad_flux v b e) (refusal 11 t)
    none)))

-- RO-4: track t, by its entry of the table.
abbrev pub track_fault : Edition → List ℕ → ℕ → Fault
track_fault v b t = track_fault_at v b (track_entry b t) t

-- RO-4: where a walk up to track j ends: there, or with the edition's table.
abbrev pub walk_end : Edition → ℕ → ℕ
walk_end v j = cond (leb j (slots v)) j (slots v)

-- RO-4: the tracks from i up to j, which is left out, as far as the edition's table goes: the first faulty one refuses.
abbrev pub tracks_fault_in : Edition → List ℕ → ℕ → ℕ → Fault
tracks_fault_in v b i j = first_from (track_fault v b) i (walk_end v j - i)

-- RO-4: the tracks of the edition's table from 0 up: the first faulty one refuses.
abbrev pub tracks_fault : Edition → List ℕ → Fault
tracks_fault v b = first_from (track_fault v b) 0 (slots v)
