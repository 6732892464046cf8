-- A revolution as it is handed out: the numbers of its record and those of its flux (T-6, T-16).
use Rattle.std.specs.Prelude.{ℕ, List, cond, length, Result, Ok, Err}
use Rattle.refusals.specs.Refusals.{Fault, refusal}
use Rattle.flux.specs.Coding.{words_of, bad_flux_size}
use Rattle.flux.specs.Reading.{intervals, open_time, total_ticks}
use Rattle.scp_tracks.specs.declared.RevolutionData.{RevolutionData}
use Rattle.scp_lookup.specs.Lookups.{flux_of}
use Rattle.scp_revolution.specs.declared.DescribedRevolution.{DescribedRevolution}

-- T-16: the words of the flux of record d.
abbrev pub words_in : List ℕ → RevolutionData → List ℕ
words_in b d = words_of (flux_of b d)

-- T-6, T-16: the revolution of record d: duration, count of words and file offset as the record has them; and of its words how many intervals, the
-- open time and the ticks of all.
abbrev pub described : List ℕ → RevolutionData → DescribedRevolution
described b d =
    record {
      duration = d.duration;
      words = d.words;
      offset = d.offset;
      intervals = length (intervals 0 (words_in b d));
      «open» = open_time 0 (words_in b d);
      total = total_ticks (words_in b d);
    }

-- T-16, R-17: of a record that was found or refused. Flux that the image cuts may be no whole words: 17; no call on an image meets it (RO-11).
abbrev pub described_on : List ℕ → Result RevolutionData Fault → Result DescribedRevolution Fault
described_on b (Ok d) =
    cond (bad_flux_size (length (flux_of b d))) (Err (refusal 17 0)) (Ok (described b d))
described_on b (Err r) = Err r
