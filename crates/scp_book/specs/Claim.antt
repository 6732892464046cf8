-- One claim about every sequence of calls, the bytes that it leaves and the answers that it gives (S-3 to S-12), whatever editions its calls
-- name; and what it says besides where one is named throughout (V-5, V-6).
use Rattle.std.specs.Prelude.{ℕ, ◌<◌, ◌≡◌, ◌↔◌, ◌⊎◌, ◌≢◌, List, [], ◌∷◌, true, false, length}
use Rattle.octets.specs.Numbers.{byte_at, Octets}
use Rattle.refusals.specs.Refusals.{none, passes}
use Rattle.scp_fields.specs.declared.Edition.{Edition}
use Rattle.scp_fields.specs.Header.{checksum_at, revolutions, read_write, stored_sum, true_sum, track_entry}
use Rattle.scp_tracks.specs.Tracks.{flux_at}
use Rattle.scp_open.specs.Opening.{open_fault}
use Rattle.scp.specs.Answers.{Answer}
use Rattle.scp_sharing.specs.Extents.{extent, In}
use Rattle.scp_sharing.specs.RewriteFault.{rewrite_fault}
use Rattle.scp_sharing.specs.Sharing.{Present, InNumbers}
use Rattle.scp_rewrite.specs.OneRewrite.{reading, distance, RewriteDoes}
use Rattle.scp_book.specs.Book as book
use Rattle.scp_book.specs.Book.{Call, ask, rewrite, after, final_bytes, last_put}

-- ---- each call

-- S-12: a rewrite's duration is a 32-bit number, and its words are bytes.
abbrev pub Fits : Call → Type 0
Fits (ask v q) = Unit {0}
Fits (rewrite v t k d ws) = (d < 4_294_967_296) × Octets ws

-- S-12: every call of a list fits.
abbrev pub AllFit : List Call → Type 0
AllFit [] = Unit {0}
AllFit (c ∷ cs) = Fits c × AllFit cs

-- S-5: what a call does to the bytes b: a question leaves them, and a rewrite does what its record says, by the edition that it names.
abbrev pub Does : List ℕ → Call → Type 0
Does b (ask v q) = after b (ask v q) ≡ b
Does b (rewrite v t k d ws) = RewriteDoes v b t k d ws

-- S-5: each call does so, on the image as the calls before it left it.
abbrev pub EachDoes : List ℕ → List Call → Type 0
EachDoes b [] = Unit {0}
EachDoes b (c ∷ cs) = Does b c × EachDoes (after b c) cs

-- S-22: the call sets byte i of the bytes b: it is an accepted rewrite, and i is one of the 8 bytes of duration and count or of the bytes that
-- the new words take.
abbrev pub Puts : List ℕ → Call → ℕ → Type 0
Puts b (ask v q) i = ⊥
Puts b (rewrite v t k d ws) i =
    (passes (rewrite_fault v b t k ws) ≡ true) × (InNumbers b t k i ⊎ In i (extent (flux_at b (track_entry b t) k) (length ws)))

-- S-22: some call of a list sets byte i, on the image as the calls before it left it.
abbrev pub SomePuts : List ℕ → List Call → ℕ → Type 0
SomePuts b [] i = ⊥
SomePuts b (c ∷ cs) i = Puts b c i ⊎ SomePuts (after b c) cs i

-- ---- one edition

-- V-6: a call that changes bytes names the edition v: a rewrite does; a question may name any, as it changes none.
abbrev pub Names : Edition → Call → Type 0
Names v (ask w q) = Unit {0}
Names v (rewrite w t k d ws) = w ≡ v

-- V-6: every call of a list does so.
abbrev pub AllName : Edition → List Call → Type 0
AllName v [] = Unit {0}
AllName v (c ∷ cs) = Names v c × AllName v cs

-- S-6, S-7, V-6: from the bytes b calls whose rewrites all name the edition v leave the bytes q.
pub record OneEdition (v : Edition) (b q : List ℕ) : Type 0 where
  -- an image that 1 to 11 or 19 refuse stays as it is
  pub refused_stays : open_fault v b ≢ none → q ≡ b
  -- an openable image stays openable
  pub stays_open : open_fault v b ≡ none → open_fault v q ≡ none

-- ---- the whole sequence

-- S-3 to S-11, S-22, V-6: from the bytes b the calls cs, whatever edition each names, leave the bytes q, and give the answers `said`.
pub record Sequence (b : List ℕ) (cs : List Call) (q : List ℕ) (said : List Answer) : Type 0 where
  -- the bytes are those that the book makes of b
  pub bytes : q ≡ final_bytes b cs
  -- each answer, with a refusal's number and position, is what the rules give for the image that its call was handed
  pub answers : said ≡ book.answers b cs
  -- each call does to the image that it was handed what the rules say
  pub calls : EachDoes b cs
  -- no byte comes or goes, and none changes but those that accepted rewrites set, and the checksum's
  pub size : length q ≡ length b
  pub rest : (i : ℕ) → (SomePuts b cs i → ⊥) → (In i (extent checksum_at 4) → ⊥) → byte_at q i ≡ byte_at b i
  -- of an image that opens by an edition, every revolution of every present track reads as its last accepted rewrite put it, or as before
  pub reads :
      (v : Edition) → open_fault v b ≡ none → (t k : ℕ) → Present v b t → k < revolutions b
      → reading q t k ≡ last_put b cs t k (reading b t k)
  -- on a read-only image stored minus true sum modulo 2^32 is what it was
  pub read_only : read_write b ≡ false → distance q ≡ distance b
  -- so sound stays sound, and a damaged image never looks sound
  pub sound : read_write b ≡ false → (stored_sum b ≡ true_sum b) ↔ (stored_sum q ≡ true_sum q)
  -- on a read/write image the checksum bytes stay
  pub read_written : read_write b ≡ true → (i : ℕ) → In i (extent checksum_at 4) → byte_at q i ≡ byte_at b i
  -- and where one edition is named throughout, what holds by it
  pub one_edition : (v : Edition) → AllName v cs → OneEdition v b q

-- S-12: the claim, for all first bytes and all lists of calls.
abbrev pub EverySequence : Type 0
EverySequence = (b : List ℕ) (cs : List Call) → Octets b → AllFit cs → Sequence b cs (final_bytes b cs) (book.answers b cs)
