-- The examples are computed.
use mathlib.Core.Path.{refl}
use Rattle.utf8.specs.Table.{table, starts, size_by, good_from}
use Rattle.utf8_theorems.specs.Encoding.{encode_all}
use Rattle.utf8_theorems.specs.Examples.{Examples}

pub examples : Examples
unfolding encode_all table starts size_by good_from
examples = record { encoded = refl; widths = refl; overlong = refl; low_second = refl; high_first = refl; letter = refl }
