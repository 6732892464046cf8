-- What replaying promises, refused and done.
use Prim.Native.Nat.{ℕ, ◌*◌, ◌/◌, ◌<◌, ◌≤◌}
use mathlib.Core.Path.{◌≡◌, refl, sym, ap, ◌∙◌}
use mathlib.Core.List.{List, []}
use mathlib.Core.Bool.{true≢false}
use lib.ListN.{length}
use borrow.Author.Tests.{le-leb, lt-leb}
use Rattle.octets.specs.Numbers.{Octets}
use Rattle.refusals.specs.Refusals.{Fault}
use Rattle.refusals.specs.Refusals.{refusal}
use Rattle.scp.specs.Answers.{Answer, refused, numbers}
use Rattle.scp_book.specs.Book.{final_bytes, answers}
use Rattle.scp_book.proofs.EverySequence.{sequence_left}
use Rattle.sequence.specs.Calls.{call_size, calls_of, places_after}
use Rattle.sequence.specs.Replaying.{replay_answer, Replays}
use Rattle.sequence.proofs.CallLaws.{calls_fit}

module _ (b calls words d : List ℕ) where
  pub refused_replay : length d < 16 * (length calls / call_size) → {r : Fault} → r ≡ refusal 15 0
      → (refused r.number r.position ≡ replay_answer calls (length d)) × Replays b calls words d b d
  refused_replay h is =
      let t = lt-leb (16 * (length calls / call_size)) (length d) h in (
        ap (λ (r : Fault). refused r.number r.position) is ∙ simp t,
        record { refused = λ e. (refl, refl); done = λ e. absurd (true≢false (sym e ∙ t)) },
      )

  pub done_replay : 16 * (length calls / call_size) ≤ length d → Octets b → Octets words → {q e : List ℕ}
      → q ≡ final_bytes b (calls_of calls words) → e ≡ places_after (answers b (calls_of calls words)) d
      → (◌≡◌ {A = Answer} (numbers []) (replay_answer calls (length d))) × Replays b calls words d q e
  done_replay h ob ow left put =
      let t = le-leb (16 * (length calls / call_size)) (length d) h in (
        simp t,
        record {
          refused = λ e. absurd (true≢false (sym t ∙ e));
          done = λ e. (answers b (calls_of calls words), put, sequence_left b _ ob (calls_fit calls words ow) left refl);
        },
      )
