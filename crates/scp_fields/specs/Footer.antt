-- The footer (L-21, L-22).
use Rattle.std.specs.Prelude.{ℕ, ◌+◌, ◌-◌, ◌*◌, List, length}
use Rattle.octets.specs.Numbers.{le32_at}
use Rattle.scp_fields.specs.Editions.{table_end}
use Rattle.scp_fields.specs.Header.{footer_size}
use Rattle.scp_fields.specs.declared.Edition.{Edition}

-- L-21: where the footer starts: it is the last 48 bytes.
abbrev pub footer_at : List ℕ → ℕ
footer_at b = length b - footer_size

-- L-22: how many strings the footer has: maker, model, serial, creator, application, comments.
abbrev pub string_slots : ℕ
string_slots = 6

-- L-22: the file offset of string j; 0 is an absent string.
abbrev pub string_entry : List ℕ → ℕ → ℕ
string_entry b j = le32_at b (footer_at b + 4 * j)

-- L-21: the least length of an image that has a footer: the table and the footer, so 736 by the one edition that has footers.
abbrev pub footer_least : Edition → ℕ
footer_least v = table_end v + footer_size
