-- Refusals 1 to 6, each by one test (R-1 to R-6).
use Rattle.std.specs.Prelude.{ℕ, List, Bool, not, ◌&&◌, ◌||◌, length, eqb, ltb}
use Rattle.octets.specs.Numbers.{byte_at}
use Rattle.scp_fields.specs.declared.Edition.{Edition}
use Rattle.scp_fields.specs.Editions.{table_end, last_track}
use Rattle.scp_fields.specs.Header.{size_limit, revolutions, start_track, end_track, read_write, width, heads}

-- R-1, Size: the length is below the table's end, 680 or 688, or above 268,435,456.
unfoldable pub bad_size : Edition → List ℕ → Bool
bad_size v b = ltb (length b) (table_end v) || ltb size_limit (length b)

-- R-2, Sign: the image does not start with "SCP" (L-1).
abbrev pub bad_sign : List ℕ → Bool
bad_sign b = not (eqb (byte_at b 0) 0x53 && (eqb (byte_at b 1) 0x43 && eqb (byte_at b 2) 0x50))

-- R-3, Width: byte 0x09 is not 0 or 16.
abbrev pub bad_width : List ℕ → Bool
bad_width b = not (eqb (width b) 0 || eqb (width b) 16)

-- R-4, Revolutions: R is 0, or the image is read/write and R is above 1.
abbrev pub bad_revolutions : List ℕ → Bool
bad_revolutions b = eqb (revolutions b) 0 || (read_write b && ltb 1 (revolutions b))

-- R-5, Span: the start track is above the end track, or the end track is above the edition's last, 165 or 167.
abbrev pub bad_span : Edition → List ℕ → Bool
bad_span v b = ltb (end_track b) (start_track b) || ltb (last_track v) (end_track b)

-- R-6, Heads: byte 0x0A is above 2.
abbrev pub bad_heads : List ℕ → Bool
bad_heads b = ltb 2 (heads b)
