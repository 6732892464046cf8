-- A track number is its cylinder and its head. The flux of a revolution lies in the image, so that the part handed out is as long as its
-- count says, even and within the limit: no reading of it is refused with 17. What refuses the revolution has a number up to 14, or 19. Its closing
-- words are read as its intervals are.
use Prim.Native.Nat.{ℕ, ◌*◌, ◌%◌, ◌<◌, ◌≤◌, min}
use mathlib.Core.Path.{◌≡◌, refl, sym, ap, ◌∙◌}
use mathlib.Core.Logic.{◌↔◌, ◌⊎◌, inl, inr, ⊎_elim, ◌≢◌}
use mathlib.Core.List.{List, [], ◌∷◌}
use mathlib.Core.Bool.{Bool, true, false, cond}
use native.Mathlib.Omega.{arith}
use lib.ListN.{length}
use borrow.Author.Tests.{eqb-true, ne_eqb, le-ltb}
use Rattle.std.specs.Prelude.{Ok, Err, Result}
use Rattle.refusals.specs.Refusals.{Fault, none, passes}
use Rattle.flux.proofs.AnswerLaws.{places_only}
use Rattle.flux_theorems.proofs.Closing.{two_lists}
use Rattle.flux.specs.Coding.{words_of, bad_flux_size, flux_limit}
use Rattle.flux.specs.Reading.{intervals, open_time, closing_numbers}
use Rattle.flux.specs.Answers.{places_refused, words_refused, Filling, refuses, fills, answer_of, reading, closing_reading}
use Rattle.copies.proofs.Parts.{part_length}
use Rattle.scp_fields.specs.declared.Edition.{Edition}
use Rattle.scp_fields.specs.Header.{track_entry}
use Rattle.scp_tracks.specs.Tracks.{count_at}
use Rattle.scp_tracks.specs.declared.RevolutionData.{RevolutionData}
use Rattle.scp_open.proofs.Opens.{opens}
use Rattle.scp_lookup.specs.Questions.{revolution_question}
use Rattle.scp_lookup.specs.Lookups.{found_revolution, flux_of, part_of}
use Rattle.scp_lookup.proofs.FoundLaws.{FoundData, revolution_there, revolution_found, found_data, found_refused, flux_within}
use Rattle.scp.specs.Answers.{refused, numbers, unless, revolution_values, revolution_answer, flux_part, read_from}
use Rattle.scp_theorems.proofs.Numbers.{footer_number, open_number, asked_number}
use Rattle.scp_theorems.specs.Theorems.{TrackNumber, FluxIsCounted, NeverWords, RevolutionTwoLists}

pub track_number_lem : (t : ℕ) → TrackNumber t
track_number_lem t = record { whole = omega arith; side = omega arith }

-- ---- the flux of a revolution is as long as its count says

-- an answer with numbers is not refused, whatever the question, and its second number is the count
pub counted : (q : Fault) (b : List ℕ) (t k duration words offset : ℕ) → unless q (revolution_values b t k) ≡ numbers (duration ∷ words ∷ offset ∷ [])
    → (q.number ≡ 0) × (count_at b (track_entry b t) k ≡ words)
counted q b t k duration words offset e = go (passes q) refl e
  where
    go : (x : Bool) → passes q ≡ x → cond x (revolution_values b t k) (refused q.number q.position) ≡ numbers (duration ∷ words ∷ offset ∷ [])
        → (q.number ≡ 0) × (count_at b (track_entry b t) k ≡ words)
    go true p h = (eqb-true q.number 0 p, cc)
    go false p h = let z : ◌≡◌ {A = ℕ} 0 1 = cc in absurd (omega arith)

module _ (v : Edition) (b : List ℕ) (t k : ℕ) where
  flux_length : {d : RevolutionData} → FoundData v b t k d → length (flux_of b d) ≡ 2 * d.words
  flux_length {d} h = part_length b d.offset.0 (2 * d.words) (flux_within v b t k h)

  handed_length : (revolution_question v b t k).number ≡ 0 → length (flux_part v b t k) ≡ 2 * count_at b (track_entry b t) k
  handed_length z =
      let found = revolution_found v b t k (revolution_there v b t k z) refl in
      ap (λ (s : List ℕ). length s) (ap (part_of b) (sym found)) ∙ flux_length (found_data v b t k found)

pub flux_is_counted : FluxIsCounted
unfolding revolution_answer
flux_is_counted v b t k duration words offset e =
    let held = counted (revolution_question v b t k) b t k duration words offset e in
    handed_length v b t k held.0 ∙ ap (λ (n : ℕ). 2 * n) held.1

-- ---- what refuses a revolution has a number up to 14, or 19

abbrev Asked : ℕ → Type 0
Asked n = (n ≤ 14) ⊎ (n ≡ 19)

low : {n : ℕ} → n ≤ 14 → Asked n
low h = inl h

-- it is none of those between
between : {n m : ℕ} → Asked n → 15 ≤ m → m ≤ 18 → n ≡ m → ⊥
between (inl h) l k e = omega arith
between (inr h) l k e = omega arith

revolution_asked : (v : Edition) (b : List ℕ) (t k : ℕ) → Asked (revolution_question v b t k).number
revolution_asked v b t k =
    let foot = footer_number Asked v b (low (omega arith)) (low (omega arith)) (low (omega arith)) (inr refl) in
    let opened =
    open_number Asked v b (low (omega arith)) (low (omega arith)) (low (omega arith)) (low (omega arith)) (low (omega arith)) (low (omega arith))
    (low (omega arith)) foot (low (omega arith)) (low (omega arith)) (low (omega arith)) in
    asked_number Asked v b opened (low (omega arith)) (low (omega arith)) t k none (low (omega arith))

-- ---- reading its intervals is never refused with 17

-- the number of a refused filling
abbrev number_of : Filling → ℕ
number_of (refuses n p) = n
number_of (fills vs xs) = 0

passed : (x : Bool) (f : Filling) (p : ℕ) → x ≡ false → cond x (refuses words_refused 0) f ≡ refuses words_refused p → f ≡ refuses words_refused p
passed x f p q e = rw q at e

good_flux : (n : ℕ) → 2 * n ≤ flux_limit → bad_flux_size (2 * n) ≡ false
good_flux n h = simp (ne_eqb (2 * n % 2) 1 (λ e. omega arith), le-ltb flux_limit (2 * n) h)

-- the flux of a revolution that is found is not refused by its length
good_found : (v : Edition) (b : List ℕ) (t k : ℕ) {d : RevolutionData} → FoundData v b t k d → bad_flux_size (length (flux_of b d)) ≡ false
good_found v b t k {d} h =
    let size = flux_length v b t k h in
    let within = flux_within v b t k h in
    let most = (opens v b h.present.track.opened).most in
    ap bad_flux_size size ∙ good_flux d.words (omega arith)

module _ (v : Edition) (b : List ℕ) (t k places p : ℕ) where
  read_whole : {d : RevolutionData} → FoundData v b t k d → reading (flux_of b d) places ≢ refuses words_refused p
  read_whole {d} h e =
      let times = intervals 0 (words_of (flux_of b d)) in
      places_only places (length times ∷ open_time 0 (words_of (flux_of b d)) ∷ []) times p (passed _ _ p (good_found v b t k h) e)

  never : (r : Result RevolutionData Fault) → r ≡ found_revolution v b t k → read_from reading b places r ≢ refuses words_refused p
  never (Ok d) h = read_whole (found_data v b t k h)
  never (Err f) h = λ e.
      let same : f.number ≡ 17 = ap number_of e in
      let number = ap (λ (x : Fault). x.number) (found_refused v b t k h).refuses in
      between (revolution_asked v b t k) (omega arith) (omega arith) (sym number ∙ same)

pub never_words : NeverWords
never_words v b t k places p = never v b t k places p (found_revolution v b t k) refl

-- ---- its closing words

-- of flux that is read, and of what refuses the revolution
module _ (v : Edition) (b : List ℕ) (t k : ℕ) (times closings : List ℕ) where
  -- the record over what was found
  record Found (r : Result RevolutionData Fault) : Type 0 where
    plain : length (closing_numbers 0 (words_of (part_of b r))) ≤ length closings
        → read_from reading b (min (length times) (length closings)) r ≡ read_from reading b (length times) r
    short : (read_from reading b (min (length times) (length closings)) r ≡ refuses places_refused 0)
        ↔ ((length times < length (intervals 0 (words_of (part_of b r)))) ⊎ (length closings < length (closing_numbers 0 (words_of (part_of b r)))))
    together : answer_of (read_from closing_reading b (min (length times) (length closings)) r) ≡ answer_of (read_from reading b (min (length times) (length closings)) r)

  lists_of : (r : Result RevolutionData Fault) → r ≡ found_revolution v b t k → Found r
  unfolding words_of intervals closing_numbers
  lists_of (Ok d) h =
      let both = two_lists (flux_of b d) times closings in
      record { plain = both.plain; short = both.short (good_found v b t k (found_data v b t k h)); together = both.together }
  lists_of (Err f) h =
      let number = ap (λ (x : Fault). x.number) (found_refused v b t k h).refuses in
      record {
        plain = λ _. refl;
        short = (
          λ e. let same : f.number ≡ 15 = ap number_of e in absurd (between (revolution_asked v b t k) (omega arith) (omega arith) (sym number ∙ same)),
          ⊎_elim (λ l. absurd (omega arith)) (λ l. absurd (omega arith)),
        );
        together = refl;
      }

pub revolution_two_lists : (v : Edition) (b : List ℕ) (t k : ℕ) (times closings : List ℕ) → RevolutionTwoLists v b t k times closings
revolution_two_lists v b t k times closings =
    let all = lists_of v b t k times closings (found_revolution v b t k) refl in
    record { plain = all.plain; short = all.short; together = all.together }
