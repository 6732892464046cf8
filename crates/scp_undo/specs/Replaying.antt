-- Replaying calls and what takes them back (U-9, U-10).
use Rattle.std.specs.Prelude.{ℕ, ◌+◌, ◌/◌, ◌<◌, ◌≡◌, List, [], ◌∷◌, ◌++◌, true, length, get_or, replicate}
use Rattle.octets.specs.Numbers.{Octets}
use Rattle.scp_fields.specs.declared.Edition.{Edition}
use Rattle.scp_fields.specs.declared.Edition.TheVariants.{V1_4, V1_6}
use Rattle.scp.specs.Answers.{numbers}
use Rattle.scp_book.specs.Book.{Call, ask, rewrite, answers}
use Rattle.scp_book.specs.Claim.{AllFit}
use Rattle.sequence.specs.Calls.{call_size, calls_of, places_after}
use Rattle.sequence.specs.Replaying.{enough, Replays}
use Rattle.scp_undo.specs.Layout.{Each, AsMany}
use Rattle.scp_undo.specs.Undoing.{undo, made}

-- ---- rewrites as rows

-- U-10, V-1: a number that names the edition.
unfoldable pub number_of : Edition → ℕ
number_of V1_4 = 14
number_of V1_6 = 16

-- U-10: the rows of the rewrites of a list, whose words stand one after the other from `start` on; a question has no row here.
unfoldable pub rewrite_rows : ℕ → List Call → List ℕ
rewrite_rows start [] = []
rewrite_rows start (ask v q ∷ cs) = rewrite_rows start cs
rewrite_rows start (rewrite v t k d ws ∷ cs) =
    (8 ∷ t ∷ k ∷ d ∷ start ∷ length ws ∷ number_of v ∷ []) ++ rewrite_rows (start + length ws) cs

-- U-10: their words.
unfoldable pub rewrite_words : List Call → List ℕ
rewrite_words [] = []
rewrite_words (ask v q ∷ cs) = rewrite_words cs
rewrite_words (rewrite v t k d ws ∷ cs) = ws ++ rewrite_words cs

-- U-10: replay can be given the calls as rows: these mean just the calls, the words are bytes, and where the words are few enough for 64 bits to
-- count them, each number has 64 bits.
pub record HasRows (cs : List Call) : Type 0 where
  pub calls : calls_of (rewrite_rows 0 cs) (rewrite_words cs) ≡ cs
  pub words : Octets (rewrite_words cs)
  pub numbers : length (rewrite_words cs) < 18_446_744_073_709_551_616 → (i : ℕ) → get_or (rewrite_rows 0 cs) i 0 < 18_446_744_073_709_551_616

-- U-10: it can be given what takes calls back, alone and behind the accepted rewrites.
abbrev pub UndoHasRows : Type 0
UndoHasRows = (b : List ℕ) (cs : List Call) → Octets b → AllFit cs → HasRows (undo b cs) × HasRows (made b cs ++ undo b cs)

-- ---- replays

-- U-9: of a replay of calls, and then one of rows that mean what takes them back, each with places for all answers, the second leaves the first
-- image, and answers that each rewrite is accepted.
abbrev pub ReplayTakesBack : Type 0
ReplayTakesBack =
    (b calls words d q e : List ℕ) (back words_back d' r e' : List ℕ) → Octets b → Octets words → Each AsMany b (calls_of calls words)
    → calls_of back words_back ≡ undo b (calls_of calls words) → enough calls (length d) ≡ true → enough back (length d') ≡ true
    → Replays b calls words d q e → Replays q back words_back d' r e'
    → (r ≡ b) × (e' ≡ places_after (replicate (length back / call_size) (numbers [])) d')

-- U-9: one replay of calls and of what takes them back behind them leaves the image as it was; with places for all answers, it answers the calls
-- as without what takes them back, and that each rewrite of this is accepted.
abbrev pub ReplayThereAndBack : Type 0
ReplayThereAndBack =
    (b rows words d q e : List ℕ) (cs : List Call) → Octets b → AllFit cs → Each AsMany b cs
    → calls_of rows words ≡ cs ++ undo b cs → Replays b rows words d q e
    → (q ≡ b)
    × (enough rows (length d) ≡ true → e ≡ places_after (answers b cs ++ replicate (length (undo b cs)) (numbers [])) d)
