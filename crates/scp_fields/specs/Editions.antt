-- The editions of the format, and what they differ in (V-1 to V-3): the entries of the table, and with them where it ends, and whether FLAGS
-- bit 5 means a footer.
use Rattle.std.specs.Prelude.{ℕ, ◌+◌, ◌-◌, ◌*◌, Bool, true, false, cond, eqb}
use Rattle.scp_fields.specs.declared.Edition.{Edition}
use Rattle.scp_fields.specs.declared.Edition.TheVariants.{V1_4, V1_6}

-- V-1: the edition that a number names: 14 is 1.4, any other 1.6.
unfoldable pub edition_of : ℕ → Edition
edition_of n = cond (eqb n 14) V1_4 V1_6

-- L-11: where the table of tracks starts.
abbrev pub table_at : ℕ
table_at = 0x10

-- V-2, L-11: how many entries the table has.
unfoldable pub slots : Edition → ℕ
slots V1_4 = 166
slots V1_6 = 168

-- V-2, L-12: the highest track number: 165 or 167.
abbrev pub last_track : Edition → ℕ
last_track v = slots v - 1

-- V-2, L-11, L-18: where the table ends, and the least offset of tracks, flux and strings: 680 or 688.
abbrev pub table_end : Edition → ℕ
table_end v = table_at + 4 * slots v

-- V-3: whether FLAGS bit 5 means a footer.
unfoldable pub footers : Edition → Bool
footers V1_4 = false
footers V1_6 = true
