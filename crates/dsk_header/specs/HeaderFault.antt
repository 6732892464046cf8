-- What refuses a DSK image before its track blocks are looked at: 30, 32, 31, 32 in this order (DK-10, R-30 to R-32).
use Rattle.std.specs.Prelude.{ℕ, List, Bool, not, ◌||◌, length, eqb, ltb}
use Rattle.refusals.specs.Refusals.{Fault, none, refusal, refuse_if}
use Rattle.dsk_fields.specs.Fields.{sign_text, says_at, info_size, tracks, sides, track_size, image_size}

-- R-30 Sign: the image does not open with "MV - CPC"; so with fewer than 8 bytes.
abbrev pub bad_sign : List ℕ → Bool
bad_sign b = not (says_at b 0 sign_text)

-- R-32 Length: it has fewer than 256 bytes.
abbrev pub too_short : List ℕ → Bool
too_short b = ltb (length b) info_size

-- R-31 Geometry: not 1 or 2 sides, no track, or a track size below 256.
abbrev pub bad_geometry : List ℕ → Bool
bad_geometry b = not (eqb (sides b) 1 || eqb (sides b) 2) || (eqb (tracks b) 0 || ltb (track_size b) info_size)

-- R-32 Length again: there is no room for 256 + tracks x sides x track size.
abbrev pub bad_length : List ℕ → Bool
bad_length b = ltb (length b) (image_size b)

-- DK-10: 30, 32 below 256 bytes, 31, 32 for the whole.
unfoldable pub head_fault : List ℕ → Fault
head_fault b =
    refuse_if (bad_sign b) (refusal 30 0)
    (refuse_if (too_short b) (refusal 32 0)
    (refuse_if (bad_geometry b) (refusal 31 0)
    (refuse_if (bad_length b) (refusal 32 0)
    none)))
