-- A revolution that is rewritten is there, so the questions for it are answered, and with what it reads.
use mathlib.Core.Path.{◌≡◌}
use Rattle.refusals.specs.Refusals.{none}
use Rattle.scp.specs.Answers.{revolution_answer}
use Rattle.scp_lookup.specs.Questions.{revolution_question}
use Rattle.scp_lookup.specs.Lookups.{found_revolution}
use Rattle.scp_sharing.proofs.Asked.{asked_rest}
use Rattle.scp_sharing.proofs.Accepted.{accepted}
use Rattle.scp_rewrite.specs.OneRewrite.{reading}
use Rattle.scp_book.specs.Book.{asked, answer}
use Rattle.scp_undo.specs.Undoing.{FormerAsked}

pub former_asked : FormerAsked
unfolding answer asked revolution_answer found_revolution reading
former_asked v b t k d ws ok =
    let there : revolution_question v b t k ≡ none = asked_rest v b t k none (accepted v b t k ws ok).asks in
    (rw there, rw there)
