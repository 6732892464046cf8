-- Taking calls back (U-1, U-2, U-5 to U-8, U-11): a sequence of accepted rewrites, each with as many words as its revolution then held, is taken
-- back by putting back the former words and durations in reverse order; each step is accepted, and the first image comes back to the last byte.
-- The rewrites may stand among questions and refused rewrites, which change nothing and need nothing, and each is taken back by the edition
-- that it names.
use Rattle.std.specs.Prelude.{ℕ, ◌*◌, ◌<◌, ◌≡◌, ◌↔◌, List, [], ◌∷◌, ◌++◌, true, false, cond, length, take}
use Rattle.octets.specs.Numbers.{byte_at, Octets}
use Rattle.refusals.specs.Refusals.{refusal, passes}
use Rattle.scp_fields.specs.declared.Edition.{Edition}
use Rattle.scp_fields.specs.Header.{checksum_at, read_write}
use Rattle.scp.specs.Answers.{numbers, bytes}
use Rattle.scp_sharing.specs.Extents.{extent, In}
use Rattle.scp_sharing.specs.RewriteFault.{rewrite_fault}
use Rattle.scp_rewrite.specs.OneRewrite.{reading, distance}
use Rattle.scp_book.specs.Book.{Call, ask, rewrite, revolution, flux, answer, after, final_bytes}
use Rattle.scp_book.specs.Claim.{AllFit, AllName}
use Rattle.scp_undo.specs.Layout.{Each, AsMany}

-- ---- what takes calls back

-- U-1: the rewrite that puts back what revolution k of track t reads on the bytes b, its duration and its words, by the edition v.
abbrev pub put_back : Edition → List ℕ → ℕ → ℕ → Call
put_back v b t k = rewrite v t k (reading b t k).duration (reading b t k).words

-- U-1: what takes back a call that was made on the bytes b: of an accepted rewrite the one that puts back what was there, by its edition; of
-- any other call nothing.
unfoldable pub undo_of : List ℕ → Call → List Call
undo_of b (ask v q) = []
undo_of b (rewrite v t k d ws) = cond (passes (rewrite_fault v b t k ws)) (put_back v b t k ∷ []) []

-- U-2: what takes back a list of calls that was made on the bytes b, in reverse order.
unfoldable pub undo : List ℕ → List Call → List Call
undo b [] = []
undo b (c ∷ cs) = undo (after b c) cs ++ undo_of b c

-- U-2: so what came later is taken back first.
abbrev pub LaterFirst : Type 0
LaterFirst = (b : List ℕ) (cs ds : List Call) → undo b (cs ++ ds) ≡ undo (final_bytes b cs) ds ++ undo b cs

-- ---- the rewrites that are taken back

-- U-7: a call that was made on the bytes b, if it is an accepted rewrite.
unfoldable pub made_of : List ℕ → Call → List Call
made_of b (ask v q) = []
made_of b (rewrite v t k d ws) = cond (passes (rewrite_fault v b t k ws)) (rewrite v t k d ws ∷ []) []

-- U-7: the accepted rewrites of a list of calls that was made on the bytes b, in order.
unfoldable pub made : List ℕ → List Call → List Call
made b [] = []
made b (c ∷ cs) = made_of b c ++ made (after b c) cs

-- ---- taking back

-- U-5: the call is a rewrite, and accepted.
abbrev pub Accepts : List ℕ → Call → Type 0
Accepts b (ask v q) = ⊥
Accepts b (rewrite v t k d ws) = passes (rewrite_fault v b t k ws) ≡ true

-- U-6: there and back: the bytes after the first n of the calls cs and of those that take them back.
abbrev pub on_the_way : List ℕ → List Call → ℕ → List ℕ
on_the_way b cs n = final_bytes b (take n (cs ++ undo b cs))

-- U-5, U-6, U-7: how the calls cs, made on the bytes b, are taken back.
pub record TakenBack (b : List ℕ) (cs : List Call) : Type 0 where
  -- each step is a rewrite that is accepted, with as many words as its revolution then holds
  pub accepted : Each Accepts (final_bytes b cs) (undo b cs)
  pub as_many : Each AsMany (final_bytes b cs) (undo b cs)
  -- its duration is a 32-bit number, and its words are bytes
  pub fit : AllFit (undo b cs)
  -- where one edition is named throughout, all name it
  pub one_edition : (v : Edition) → AllName v cs → AllName v (undo b cs)
  -- they give the first image back to the last byte
  pub bytes : final_bytes (final_bytes b cs) (undo b cs) ≡ b
  -- on a read-only image the checksum moves there and back: its distance from the true sum is always what it was
  pub read_only : read_write b ≡ false → (n : ℕ) → distance (on_the_way b cs n) ≡ distance b
  -- on a read/write image its bytes are never touched
  pub read_written : read_write b ≡ true → (n i : ℕ) → In i (extent checksum_at 4) → byte_at (on_the_way b cs n) i ≡ byte_at b i
  -- taken back in turn, they make the accepted rewrites again
  pub again : undo (final_bytes b cs) (undo b cs) ≡ made b cs

-- U-5: all calls are taken back, whatever the first bytes, if each accepted rewrite has as many words as its revolution then held.
abbrev pub TakesBack : Type 0
TakesBack = (b : List ℕ) (cs : List Call) → Octets b → AllFit cs → Each AsMany b cs → TakenBack b cs

-- ---- why as many words

-- U-8: where some calls ds, whatever they are, give the first bytes back after the calls cs, each accepted rewrite of these had as many words.
abbrev pub OnlyAsMany : Type 0
OnlyAsMany = (b : List ℕ) (cs ds : List Call) → AllFit cs → AllFit ds → final_bytes b (cs ++ ds) ≡ b → Each AsMany b cs

-- U-8: so the first bytes come back exactly if each accepted rewrite had as many words.
abbrev pub BackExactly : Type 0
BackExactly =
    (b : List ℕ) (cs : List Call) → Octets b → AllFit cs → (final_bytes (final_bytes b cs) (undo b cs) ≡ b) ↔ Each AsMany b cs

-- U-8: what puts back at once what was there before a rewrite with fewer words is refused with 17: these are more than the revolution now has.
abbrev pub FewerRefused : Type 0
FewerRefused =
    (v : Edition) (b : List ℕ) (t k d : ℕ) (ws : List ℕ) → d < 4_294_967_296 → Accepts b (rewrite v t k d ws)
    → length ws < 2 * (reading b t k).count
    → rewrite_fault v (after b (rewrite v t k d ws)) t k (reading b t k).words ≡ refusal 17 0

-- ---- what there is to put back

-- U-11: the questions for the revolution and for its flux, put just before an accepted rewrite of it, answer what it reads then.
abbrev pub FormerAsked : Type 0
FormerAsked =
    (v : Edition) (b : List ℕ) (t k d : ℕ) (ws : List ℕ) → Accepts b (rewrite v t k d ws)
    → (answer b (ask v (revolution t k)) ≡ numbers ((reading b t k).duration ∷ (reading b t k).count ∷ (reading b t k).offset ∷ []))
    × (answer b (ask v (flux t k)) ≡ bytes (reading b t k).offset (reading b t k).words)
