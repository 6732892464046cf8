-- What replay promises of a list of calls and of what takes it back: the bytes and the answers of its rows are those of the definitions.
use Prim.Native.Nat.{ℕ, ◌/◌}
use mathlib.Core.Path.{◌≡◌, refl, sym, ap, ◌∙◌}
use mathlib.Core.List.{List, [], ◌∷◌, ◌++◌}
use mathlib.Core.Bool.{Bool, true, false}
use lib.ListN.{length, replicate}
use Rattle.scp.specs.Answers.{Answer, numbers}
use Rattle.scp_book.specs.Book.{Call, ask, rewrite, answer, after, final_bytes, answers}
use Rattle.scp_book.proofs.Appending.{final_append, answers_append}
use Rattle.sequence.specs.Calls.{call_size, calls_of, places_after}
use Rattle.sequence.specs.Replaying.{enough}
use Rattle.sequence.proofs.CallLaws.{calls_length, calls_fit}
use Rattle.scp_undo.specs.Layout.{Each}
use Rattle.scp_undo.specs.Undoing.{undo, Accepts, TakenBack}
use Rattle.scp_undo.specs.Replaying.{ReplayTakesBack, ReplayThereAndBack}
use Rattle.scp_undo.proofs.TakesBack.{takes_back}

-- accepted rewrites answer no values
accepted_answers : (b : List ℕ) (cs : List Call) → Each Accepts b cs → answers b cs ≡ replicate (length cs) (numbers [])
unfolding answers answer
accepted_answers b [] a = refl
accepted_answers b (ask v q ∷ cs) a = absurd a.0
accepted_answers b (rewrite v t k d ws ∷ cs) a = rw a.0 (ap (◌∷◌ (numbers [])) (accepted_answers (after b (rewrite v t k d ws)) cs a.1))

pub replay_takes_back : ReplayTakesBack
replay_takes_back b calls words d q e back words_back d' r e' hb hw many made room room' x y =
    let cs = calls_of calls words in
    let there = x.done room in
    let here = y.done room' in
    let taken = takes_back b cs hb (calls_fit calls words hw) many in
    let said : here.0 ≡ replicate (length back / call_size) (numbers []) =
    here.2.answers
    ∙ cc (there.2.bytes, made)
    ∙ accepted_answers (final_bytes b cs) (undo b cs) taken.accepted
    ∙ ap (λ (n : ℕ). replicate n (numbers [])) (sym (ap length made) ∙ calls_length back words_back 0 (length back / call_size)) in
    (here.2.bytes ∙ cc (there.2.bytes, made) ∙ taken.bytes, here.1 ∙ ap (λ (said : List Answer). places_after said d') said)

pub replay_there_and_back : ReplayThereAndBack
replay_there_and_back b rows words d q e cs hb fit many means x = (
  by (enough rows (length d)) refl,
  λ room.
      let made = x.done room in
      made.1 ∙ ap (λ (said : List Answer). places_after said d) (made.2.answers ∙ ap (answers b) means ∙ said),
)
  where
    back : TakenBack b cs
    back = takes_back b cs hb fit many

    said : answers b (cs ++ undo b cs) ≡ answers b cs ++ replicate (length (undo b cs)) (numbers [])
    said =
        answers_append b cs (undo b cs)
        ∙ ap (λ (xs : List Answer). answers b cs ++ xs) (accepted_answers (final_bytes b cs) (undo b cs) back.accepted)

    by : (y : Bool) → enough rows (length d) ≡ y → q ≡ b
    by true room = (x.done room).2.bytes ∙ ap (final_bytes b) means ∙ final_append b cs (undo b cs) ∙ back.bytes
    by false room = (x.refused room).0
