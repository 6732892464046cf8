-- Replaying a lent list of calls on the image: what it answers, and what it does to the image and to the places for the answers.
use Rattle.std.specs.Prelude.{ℕ, ◌*◌, ◌/◌, ◌≡◌, List, [], Bool, true, false, cond, length, leb, Result, Ok, Err}
use Rattle.refusals.specs.Refusals.{Fault}
use Rattle.scp.specs.Answers.{Answer, refused, numbers}
use Rattle.scp_book.specs.Claim.{Sequence}
use Rattle.scp_rows.specs.Rows.{answer_size}
use Rattle.sequence.specs.Calls.{call_size, calls_of, places_after}

-- S-21: whether there are 16 places for each call.
abbrev pub enough : List ℕ → ℕ → Bool
enough calls places = leb (answer_size * (length calls / call_size)) places

-- A-14: number and values of each case of a replay.
abbrev pub of_replayed : Result Unit Fault → Answer
of_replayed (Ok u) = numbers []
of_replayed (Err r) = refused r.number r.position

-- A-14, S-21: refusal 15 where there are fewer than 16 places a call.
abbrev pub replay_answer : List ℕ → ℕ → Answer
replay_answer calls places = cond (enough calls places) (numbers []) (refused 15 0)

-- S-21, C-14: from the image b and the places d for answers it makes the image q and the places e.
pub record Replays (b calls words d q e : List ℕ) : Type 0 where
  -- too few places: nothing is done
  pub refused : enough calls (length d) ≡ false → (q ≡ b) × (e ≡ d)
  -- else the calls were made: the places hold the rows of answers `said`, and the claim holds of the calls, the image q and these answers
  pub done :
      enough calls (length d) ≡ true
      → (said : List Answer) × (e ≡ places_after said d) × Sequence b (calls_of calls words) q said
