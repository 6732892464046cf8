-- Every starred example holds: the definitions compute to what it says.
use mathlib.Core.Path.{refl}
use Rattle.octets.specs.Sums.{sum_of}
use Rattle.flux.specs.Coding.{words_of, bytes_of}
use Rattle.flux.specs.Reading.{intervals, open_time}
use Rattle.flux.specs.Writing.{words_for, first_inexpressible}
use Rattle.examples.specs.Table.{AllSay, starred}

pub starred_hold : AllSay starred
unfolding sum_of words_of bytes_of intervals open_time words_for first_inexpressible
starred_hold = (refl, (refl, (refl, (refl, (refl, (refl, (refl, (refl, (λ places. refl, (λ places. refl, ((refl, refl), ((refl, refl), (refl, tt)))))))))))))
