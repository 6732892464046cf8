-- The footer and its strings (L-21 to L-24), and refusals 7, 8 and 19.
use Rattle.std.specs.Prelude.{ℕ, ◌+◌, List, Bool, not, ◌&&◌, ◌||◌, length, eqb, ltb}
use Rattle.octets.specs.Numbers.{byte_at, le16_at}
use Rattle.refusals.specs.Refusals.{Fault, none, refusal, refuse_if}
use Rattle.refusals.specs.Search.{any_from, first_from}
use Rattle.copies.specs.Copying.{part}
use Rattle.utf8.specs.Table.{well_formed}
use Rattle.scp_fields.specs.declared.Edition.{Edition}
use Rattle.scp_fields.specs.Editions.{table_end}
use Rattle.scp_fields.specs.Header.{has_footer, data_end}
use Rattle.scp_fields.specs.Footer.{footer_at, string_slots, string_entry, footer_least}

-- R-7: the image has a footer, and the length is below 736, the last four bytes are not "FPCS", or byte 0x2B of the footer is below 0x16.
abbrev pub bad_footer : Edition → List ℕ → Bool
bad_footer v b =
    has_footer v b && (ltb (length b) (footer_least v)
    || (not (eqb (byte_at b (footer_at b + 0x2C)) 0x46 && (eqb (byte_at b (footer_at b + 0x2D)) 0x50
    && (eqb (byte_at b (footer_at b + 0x2E)) 0x43 && eqb (byte_at b (footer_at b + 0x2F)) 0x53)))
    || ltb (byte_at b (footer_at b + 0x2B)) 0x16))

-- ---- strings

-- L-23: the byte at offset i is zero.
abbrev pub zero_at : List ℕ → ℕ → Bool
zero_at b i = eqb (byte_at b i) 0

-- L-23: some of the n bytes from i on is zero.
abbrev pub zero_within : List ℕ → ℕ → ℕ → Bool
zero_within b i n = any_from (zero_at b) i n

-- L-18, L-23: a string at offset o of n bytes is misplaced or malformed: it starts below the table's end or ends above E, one of its
-- bytes is zero, or no zero byte follows them.
unfoldable pub bad_string_of : Edition → List ℕ → ℕ → ℕ → Bool
bad_string_of v b o n =
    ltb o (table_end v) || (ltb (data_end v b) (o + 3 + n) || (zero_within b (o + 2) n || not (eqb (byte_at b (o + 2 + n)) 0)))

-- R-8, L-23: the string at offset o, of the 16-bit length that stands there, is misplaced or malformed.
abbrev pub bad_string : Edition → List ℕ → ℕ → Bool
bad_string v b o = bad_string_of v b o (le16_at b o)

-- L-23: the bytes of the string at offset o, without its length and its closing zero.
abbrev pub string_bytes : List ℕ → ℕ → List ℕ
string_bytes b o = part b (o + 2) (le16_at b o)

-- R-19, L-24: the bytes of the string at offset o are not well-formed UTF-8.
abbrev pub bad_text : List ℕ → ℕ → Bool
bad_text b o = not (well_formed (string_bytes b o))

-- R-8, R-19: string j at offset o refuses where it is present: with 8 where it is misplaced or malformed, then with 19 where it is no text;
-- the position is j.
unfoldable pub string_fault_at : Edition → List ℕ → ℕ → ℕ → Fault
string_fault_at v b o j = refuse_if (eqb o 0) none (refuse_if (bad_string v b o) (refusal 8 j) (refuse_if (bad_text b o) (refusal 19 j) none))

-- R-8, R-19: the same, at the offset that the footer has for string j.
abbrev pub string_fault : Edition → List ℕ → ℕ → Fault
string_fault v b j = string_fault_at v b (string_entry b j) j

-- R-8, R-19, RO-2: the first faulty string.
abbrev pub strings_fault : Edition → List ℕ → Fault
strings_fault v b = first_from (string_fault v b) 0 string_slots

-- RO-3: 7, then 8 and 19 of each string where there is a footer.
unfoldable pub footer_fault : Edition → List ℕ → Fault
footer_fault v b = refuse_if (bad_footer v b) (refusal 7 0) (refuse_if (not (has_footer v b)) none (strings_fault v b))
