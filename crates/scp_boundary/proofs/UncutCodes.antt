-- No refusal of a call on an image is cut: each number is below 256, and each position 0, the number of a string or the index of a track,
-- below 256 too. Both limits are kept by each test of a chain, by each index of a search, and by each question.
use Prim.Native.Nat.{ℕ, ◌<◌}
use mathlib.Core.List.{List, []}
use mathlib.Core.Bool.{Bool, true, false, cond}
use native.Mathlib.Omega.{arith}
use lib.Dec.{eqb}
use Rattle.std.specs.Prelude.{Option, Some}
use Rattle.std.specs.Prelude as std
use Rattle.scp_speed.specs.declared.TrackSpeeds.{TrackSpeeds}
use Rattle.refusals.specs.Refusals.{Fault, none, passes}
use Rattle.scp_fields.specs.declared.Edition.{Edition}
use Rattle.scp_fields.specs.Editions.{slots}
use Rattle.scp_fields.specs.Header.{has_footer, track_entry}
use Rattle.scp_fields.proofs.EditionLaws.{slots_most}
use Rattle.scp_fields.specs.Footer.{string_slots}
use Rattle.scp_footer.specs.Footer.{string_fault_at, string_fault, footer_fault}
use Rattle.scp_header.specs.HeaderFault.{header_fault}
use Rattle.scp_tracks.specs.Tracks.{duration_at, track_fault_at, track_fault, tracks_fault}
use Rattle.scp_open.specs.Opening.{open_fault}
use Rattle.scp_speed.specs.Speeds.{longest, speeds_of}
use Rattle.scp_speed.specs.declared.TrackSpeeds.{TrackSpeeds}
use Rattle.scp_lookup.specs.Questions.{track_then, track_question, revolution_then, revolution_question}
use Rattle.scp.specs.Validating.{validate_fault}
use Rattle.scp.specs.Answers as answers
use Rattle.scp.specs.Answers.{Answer, numbers, unless, header_answer, footer_values, footer_answer, track_answer, revolution_answer, speed_answer, of_speed_range, track_speed_answer}
use Rattle.scp_sharing.specs.RewriteFault.{words_then_shared, rewrite_fault}
use Rattle.scp_book.specs.Book.{Question, validate, header, footer, track, revolution, flux, speed, track_speed, ask, rewrite, asked, answer}
use Rattle.scp_boundary.specs.Theorems.{Whole, Uncut}
use Rattle.boundary.proofs.ExactCodes.{exact}
use Rattle.boundary.proofs.SmallCodes.{Small, small_none, small_first, small_at, small_if, small_from}

-- ---- what refuses an image

module _ (v : Edition) (b : List ℕ) where
  string_small : (j : ℕ) → j < 256 → Small (string_fault v b j)
  unfolding string_fault_at
  string_small j h = small_if _ _ 0 (omega arith) (small_at _ _ 8 j (omega arith) (omega arith) (small_at _ _ 19 j (omega arith) (omega arith) small_none))

  footer_small : Small (footer_fault v b)
  unfolding footer_fault
  footer_small =
      small_if _ _ 7 (omega arith)
      (small_if _ _ 0 (omega arith)
      (small_from (string_fault v b) 0 string_slots (λ j a z. string_small j (omega arith))))

  pub header_small : Small (header_fault v b)
  unfolding header_fault
  header_small =
      small_if _ _ 1 (omega arith)
      (small_if _ _ 2 (omega arith)
      (small_if _ _ 3 (omega arith)
      (small_if _ _ 4 (omega arith)
      (small_if _ _ 5 (omega arith)
      (small_if _ _ 6 (omega arith)
      small_none)))))

  pub track_small : (t : ℕ) → t < 256 → Small (track_fault v b t)
  unfolding track_fault_at
  track_small t h =
      small_if _ _ 0 (omega arith)
      (small_at _ _ 9 t (omega arith) (omega arith)
      (small_at _ _ 10 t (omega arith) (omega arith)
      (small_at _ _ 11 t (omega arith) (omega arith)
      small_none)))

  open_small : Small (open_fault v b)
  unfolding open_fault
  open_small =
      small_first (header_fault v b) _ header_small
      (small_first (footer_fault v b) (tracks_fault v b) footer_small
      (small_from (track_fault v b) 0 (slots v) (λ t a z. track_small t (omega (arith, slots_most v)))))

  -- ---- what refuses a call

  validate_small : Small (validate_fault v b)
  unfolding validate_fault
  validate_small = small_first (open_fault v b) _ open_small (small_if _ _ 12 (omega arith) small_none)

  asked_small : (t : ℕ) (rest : Fault) → Small rest → Small (track_then v b t rest)
  unfolding track_then
  asked_small t rest h = small_first (open_fault v b) _ open_small (small_if _ _ 13 (omega arith) (small_if _ _ 13 (omega arith) h))

  revolution_small : (t k : ℕ) (rest : Fault) → Small rest → Small (revolution_then v b t k rest)
  revolution_small t k rest h = asked_small t _ (small_if _ _ 14 (omega arith) h)

  rewrite_small : (t k : ℕ) (ws : List ℕ) → Small (rewrite_fault v b t k ws)
  unfolding rewrite_fault words_then_shared
  rewrite_small t k ws = revolution_small t k _ (small_if _ _ 17 (omega arith) (small_if _ _ 18 (omega arith) small_none))

-- ---- what a call answers

whole_either : (t : Bool) (a c : Answer) → Whole a → Whole c → Whole (cond t a c)
whole_either true a c h k = h
whole_either false a c h k = k

pub whole_unless : (f : Fault) (a : Answer) → Small f → Whole a → Whole (unless f a)
whole_unless f a h k = whole_either (passes f) a _ k (exact f.number f.position h.0 h.1)

range_whole : (t : Bool) (s : TrackSpeeds) → Whole (of_speed_range (cond t std.None (Some s)))
range_whole true s = tt
range_whole false s = tt

question_whole : (v : Edition) (b : List ℕ) (q : Question) → Whole (asked v b q)
unfolding asked header_answer footer_answer footer_values track_answer revolution_answer speed_answer track_speed_answer speeds_of
question_whole v b validate = whole_unless (validate_fault v b) _ (validate_small v b) tt
question_whole v b header = whole_unless (open_fault v b) _ (open_small v b) tt
question_whole v b footer = whole_unless (open_fault v b) _ (open_small v b) (whole_either (has_footer v b) (footer_values b) answers.none tt tt)
question_whole v b (track t) = whole_unless (track_question v b t) _ (asked_small v b t none small_none) tt
question_whole v b (revolution t k) = whole_unless (revolution_question v b t k) _ (revolution_small v b t k none small_none) tt
question_whole v b (flux t k) = whole_unless (revolution_question v b t k) _ (revolution_small v b t k none small_none) tt
question_whole v b (speed t k) =
    whole_unless (revolution_question v b t k) _ (revolution_small v b t k none small_none)
    (whole_either (eqb (duration_at b (track_entry b t) k) 0) answers.none _ tt tt)
question_whole v b (track_speed t) =
    whole_unless (track_question v b t) _ (asked_small v b t none small_none)
    (range_whole (eqb (longest b (track_entry b t)) 0) _)

pub uncut : Uncut
unfolding answer
uncut b (ask v q) = question_whole v b q
uncut b (rewrite v t k d ws) = whole_unless (rewrite_fault v b t k ws) (numbers []) (rewrite_small v b t k ws) tt
