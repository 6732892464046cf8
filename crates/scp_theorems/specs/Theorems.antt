-- What the definitions of editions, validating, asking and speeds are proved to mean. The proofs stand in proofs/.
use Rattle.std.specs.Prelude.{ℕ, ◌+◌, ◌*◌, ◌<◌, ◌≤◌, ◌≡◌, ◌↔◌, ◌⊎◌, ◌≢◌, List, [], ◌∷◌, true, false, length, pos, Some, None}
use Rattle.std.specs.Float.{binary64}
use Rattle.std.specs.Float.Ieee.{of_int, to_unsigned, round, le}
use Rattle.std.specs.Float.Ieee.Exact.{HasValue}
use Rattle.octets.specs.Numbers.{Octets}
use Rattle.refusals.specs.Refusals.{Fault, none}
use Rattle.flux.specs.Coding.{words_of}
use Rattle.flux.specs.Reading.{intervals, closing_numbers}
use Rattle.flux.specs.Answers.{places_refused, words_refused, refuses, answer_of}
use Rattle.scp_fields.specs.declared.Edition.{Edition}
use Rattle.scp_fields.specs.declared.Edition.TheVariants.{V1_4, V1_6}
use Rattle.scp_fields.specs.Editions.{slots, last_track, table_end}
use Rattle.scp_fields.specs.Header.{revolutions, read_write, has_footer, stored_sum, true_sum, data_end}
use Rattle.scp_tracks.specs.Tracks.{cylinder_of, head_of, duration_at}
use Rattle.scp_open.specs.Opening.{open_fault}
use Rattle.scp_lookup.specs.Questions.{track_then, revolution_then}
use Rattle.scp_open.specs.Validity.{Opens}
use Rattle.scp_speed.specs.Speeds.{rpm_of, speed_of, longest, shortest, speeds_of}
use Rattle.scp.specs.Validating.{validate_fault}
use Rattle.scp.specs.Answers as answers
use Rattle.scp.specs.Answers.{numbers, footer_answer, revolution_answer, flux_part, revolution_reading, revolution_closed_times, revolution_closed_numbers}

-- ---- editions

-- How many entries the table of each edition has, its highest track number, and where the table ends (V-2).
pub record EditionNumbers : Type 0 where
  pub old : (slots V1_4 ≡ 166) × (last_track V1_4 ≡ 165) × (table_end V1_4 ≡ 680)
  pub new : (slots V1_6 ≡ 168) × (last_track V1_6 ≡ 167) × (table_end V1_6 ≡ 688)

-- A number that is none of the footer's: not 7, 8 or 19 (V-3).
abbrev pub NotFooter : ℕ → Type 0
NotFooter n = (n ≢ 7) × (n ≢ 8) × (n ≢ 19)

-- By 1.4 an image has no footer, whatever its FLAGS say: its tracks and flux may lie up to its end, no call gives 7, 8 or 19, neither opening nor
-- validating nor one on a track or a revolution, unless what comes after that does, and the question for its footer answers that there is none
-- (V-3).
pub record NoFooter (b : List ℕ) : Type 0 where
  pub flag : has_footer V1_4 b ≡ false
  pub end : data_end V1_4 b ≡ length b
  pub opening : NotFooter (open_fault V1_4 b).number
  pub validating : NotFooter (validate_fault V1_4 b).number
  pub track : (t : ℕ) (rest : Fault) → NotFooter rest.number → NotFooter (track_then V1_4 b t rest).number
  pub revolution : (t k : ℕ) (rest : Fault) → NotFooter rest.number → NotFooter (revolution_then V1_4 b t k rest).number
  pub answer : open_fault V1_4 b ≡ none → footer_answer V1_4 b ≡ answers.none

-- So it is of every image (V-3).
abbrev pub NeverFooter : Type 0
NeverFooter = (b : List ℕ) → NoFooter b

-- ---- validating

-- The image obeys all that validating by an edition asks: it opens, and its checksum is the true sum if it is read-only, and 0 if it is
-- read/write (RO-5).
pub record Valid (v : Edition) (b : List ℕ) : Type 0 where
  pub opens : Opens v b
  pub read_only : read_write b ≡ false → stored_sum b ≡ true_sum b
  pub read_written : read_write b ≡ true → stored_sum b ≡ 0

-- By any edition, validating accepts exactly what obeys (RO-5).
abbrev pub ValidatesExactly : Type 0
ValidatesExactly = (v : Edition) (b : List ℕ) → (validate_fault v b ≡ none) ↔ Valid v b

-- ---- tracks and the flux of their revolutions

-- A track number is its cylinder and its head (L-14).
pub record TrackNumber (t : ℕ) : Type 0 where
  pub whole : 2 * cylinder_of t + head_of t ≡ t
  pub side : head_of t < 2

-- The flux handed out is the words that the revolution counts (T-8).
abbrev pub FluxIsCounted : Type 0
FluxIsCounted =
    (v : Edition) (b : List ℕ) (t k duration words offset : ℕ) → revolution_answer v b t k ≡ numbers (duration ∷ words ∷ offset ∷ [])
    → length (flux_part v b t k) ≡ 2 * words

-- The intervals of a revolution are never refused with 17, at no position and however many places there are (RO-11).
abbrev pub NeverWords : Type 0
NeverWords = (v : Edition) (b : List ℕ) (t k places position : ℕ) → revolution_reading v b t k places ≢ refuses words_refused position

-- The intervals of revolution k of track t with their closing words, into these two lists (T-15): where the second is long enough, as without it;
-- refused with 15 exactly if either is too short, which none is for a refused revolution, whose part is empty; both are filled, or both are left.
pub record RevolutionTwoLists (v : Edition) (b : List ℕ) (t k : ℕ) (times closings : List ℕ) : Type 0 where
  pub plain : length (closing_numbers 0 (words_of (flux_part v b t k))) ≤ length closings
      → revolution_closed_times v b t k times closings ≡ revolution_reading v b t k (length times)
  pub short : (revolution_closed_times v b t k times closings ≡ refuses places_refused 0)
      ↔ ((length times < length (intervals 0 (words_of (flux_part v b t k)))) ⊎ (length closings < length (closing_numbers 0 (words_of (flux_part v b t k)))))
  pub together : answer_of (revolution_closed_numbers v b t k times closings) ≡ answer_of (revolution_closed_times v b t k times closings)

-- ---- the longest and the shortest duration of a track

-- m is the greatest of f 0 to f (n - 1): each is at most m, and one of them is m, or m is 0 where there is none (T-13).
pub record Greatest (f : ℕ → ℕ) (n m : ℕ) : Type 0 where
  pub bound : (k : ℕ) → k < n → f k ≤ m
  pub reached : 0 < n → (k : ℕ) × (k < n) × (f k ≡ m)
  pub none : n ≡ 0 → m ≡ 0

-- m is the least of f 0 to f (n - 1) that is not 0: m is 0 exactly if all are; else one of them is m, and each that is not 0 is at least m
-- (T-13).
pub record LeastNonzero (f : ℕ → ℕ) (n m : ℕ) : Type 0 where
  pub none : (m ≡ 0) ↔ ((k : ℕ) → k < n → f k ≡ 0)
  pub reached : (m ≡ 0 → ⊥) → (k : ℕ) × (k < n) × (f k ≡ m)
  pub bound : (k : ℕ) → k < n → (f k ≡ 0 → ⊥) → m ≤ f k

-- The longest duration of the revolutions of the track data header at e is the greatest of them (T-13).
abbrev pub Longest : Type 0
Longest = (b : List ℕ) (e : ℕ) → Greatest (duration_at b e) (revolutions b) (longest b e)

-- The shortest is the least of them that is not 0 (T-13).
abbrev pub Shortest : Type 0
Shortest = (b : List ℕ) (e : ℕ) → LeastNonzero (duration_at b e) (revolutions b) (shortest b e)

-- ---- speeds

-- The float made of n is n exactly: it is finite, not negative and of size n / 1, and as a number of 32 bits it is n again (T-11).
pub record CastExact (n : ℕ) : Type 0 where
  pub value : HasValue (of_int binary64 (pos n)) false n 1
  pub back : to_unsigned 32 (of_int binary64 (pos n)) ≡ n

-- The casts to f64 lose nothing (T-11).
abbrev pub CastsExact : Type 0
CastsExact = (n : ℕ) → n < 4_294_967_296 → CastExact n

-- So a speed is the fraction 2,400,000,000 / duration itself, rounded once to the nearest f64 (T-10).
abbrev pub RoundedOnce : Type 0
RoundedOnce = (d : ℕ) → 0 < d → d < 4_294_967_296 → rpm_of d ≡ round binary64 false 2_400_000_000 d

-- No revolution is slower than the slowest speed of its track, and none is faster than the fastest (T-12).
pub record Between (b : List ℕ) (e k : ℕ) : Type 0 where
  pub slowest : le (rpm_of (longest b e)) (rpm_of (duration_at b e k)) ≡ true
  pub fastest : le (rpm_of (duration_at b e k)) (rpm_of (shortest b e)) ≡ true

-- Of the track data header at e, each revolution that has a speed (T-12).
abbrev pub SlowestFastest : Type 0
SlowestFastest =
    (b : List ℕ) (e k : ℕ) → Octets b → k < revolutions b → (duration_at b e k ≡ 0 → ⊥) → Between b e k

-- A track has no speed exactly if all its durations are 0 (T-12).
abbrev pub NoSpeed : Type 0
NoSpeed = (b : List ℕ) (e : ℕ) → (speeds_of b e ≡ None) ↔ ((k : ℕ) → k < revolutions b → duration_at b e k ≡ 0)

-- A duration of 8,000,000 ticks is exactly 300.0 rpm (X-9).
abbrev pub ThreeHundred : Type 0
ThreeHundred = speed_of 8_000_000 ≡ Some (of_int binary64 (pos 300))
