-- The values of what a DSK image answers, as they pass to C (include/dsk.h).
use Rattle.std.specs.Prelude.{ℕ, List, [], ◌∷◌, cond, ltb, Result, Ok, Err}
use Rattle.refusals.specs.Refusals.{Fault, refusal}
use Rattle.boundary.specs.Boundary.{Given, refuses, gives}
use Rattle.dsk.specs.declared.DiskGeometry.{DiskGeometry}
use Rattle.dsk.specs.declared.TrackBlock.{TrackBlock}
use Rattle.dsk.specs.declared.SectorInfo.{SectorInfo}
use Rattle.dsk_layout.specs.declared.Layout.{Layout}
use Rattle.dsk_write.specs.Writing.{write_answer}

-- C-16: validating gives no values.
abbrev pub of_validated : Result Unit Fault → Given ℕ
of_validated (Ok u) = gives []
of_validated (Err r) = refuses r.number r.position

-- C-1: what a call gives: the numbers of what it found, or its refusal.
abbrev pub numbers_given : {A : Type 0} → (A → List ℕ) → Result A Fault → Given ℕ
numbers_given numbers (Ok x) = gives (numbers x)
numbers_given numbers (Err r) = refuses r.number r.position

-- C-17: a geometry as tracks, sides, track size.
abbrev pub geometry_numbers : DiskGeometry → List ℕ
geometry_numbers g = g.tracks ∷ g.sides ∷ g.size ∷ []

-- C-17: what the call for the geometry gives.
abbrev pub of_geometry : Result DiskGeometry Fault → Given ℕ
of_geometry = numbers_given geometry_numbers

-- C-18: a track block as number of sectors, size code N, gap, filler.
abbrev pub block_numbers : TrackBlock → List ℕ
block_numbers d = d.sectors ∷ d.code ∷ d.gap ∷ d.filler ∷ []

-- C-18: what the call for a track block gives.
abbrev pub of_block : Result TrackBlock Fault → Given ℕ
of_block = numbers_given block_numbers

-- C-19: a sector as C, H, R, N, ST1, ST2, file offset and length of its data.
abbrev pub sector_numbers : SectorInfo → List ℕ
sector_numbers d = d.cylinder ∷ d.head ∷ d.id ∷ d.code ∷ d.status1 ∷ d.status2 ∷ d.offset ∷ d.length ∷ []

-- C-19: what the call for a sector gives.
abbrev pub of_sector : Result SectorInfo Fault → Given ℕ
of_sector = numbers_given sector_numbers

-- C-20: what writing gives: the length of the image.
abbrev pub of_written : Result ℕ Fault → Given ℕ
of_written = numbers_given (λ n. n ∷ [])

-- C-20: 15 where `out`, of so many places, has none for the length; every other refusal comes before it.
abbrev pub with_length : ℕ → Result ℕ Fault → Result ℕ Fault
with_length places (Ok n) = cond (ltb places 1) (Err (refusal 15 0)) (Ok n)
with_length places (Err r) = Err r

-- C-20: what `dsk_write` answers where `image` has so many places, and `out` so many.
abbrev pub write_to : List ℕ → Layout → List ℕ → ℕ → ℕ → Result ℕ Fault
write_to c l d image_places out_places = with_length out_places (write_answer c l d image_places)
