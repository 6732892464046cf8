-- What rewrites with as many words as were there leave as it was (U-3, U-4): where revolutions lie, how many words they have, and what is claimed.
use Rattle.std.specs.Prelude.{ℕ, ◌*◌, ◌<◌, ◌≡◌, ◌↔◌, List, [], ◌∷◌, true, length}
use Rattle.refusals.specs.Refusals.{passes}
use Rattle.scp_fields.specs.declared.Edition.{Edition}
use Rattle.scp_fields.specs.Editions.{slots}
use Rattle.scp_fields.specs.Header.{revolutions, track_entry}
use Rattle.scp_sharing.specs.Claims.{claims}
use Rattle.scp_sharing.specs.Sharing.{Present, ClaimedTwice}
use Rattle.scp_sharing.specs.RewriteFault.{rewrite_fault}
use Rattle.scp_rewrite.specs.OneRewrite.{reading}
use Rattle.scp_book.specs.Book.{Call, ask, rewrite, after, final_bytes}
use Rattle.scp_book.specs.Claim.{AllFit, AllName}

-- ---- calls that keep sizes

-- U-3: each call of a list has the property P on the image as the calls before it left it.
abbrev pub Each : (List ℕ → Call → Type 0) → List ℕ → List Call → Type 0
Each P b [] = Unit {0}
Each P b (c ∷ cs) = P b c × Each P (after b c) cs

-- U-3: the call, if it is an accepted rewrite, has as many words as its revolution then holds.
abbrev pub AsMany : List ℕ → Call → Type 0
AsMany b (ask v q) = Unit {0}
AsMany b (rewrite v t k d ws) = passes (rewrite_fault v b t k ws) ≡ true → length ws ≡ 2 * (reading b t k).count

-- ---- what they keep

-- U-4: by the edition v the bytes q are laid out as the bytes b are.
pub record SameLayout (v : Edition) (b q : List ℕ) : Type 0 where
  -- the same tracks, at the same offsets, of as many revolutions
  pub tracks : (t : ℕ) → t < slots v → track_entry q t ≡ track_entry b t
  pub per_track : revolutions q ≡ revolutions b
  -- each revolution's flux at the same offset, of as many words
  pub offsets : (t k : ℕ) → Present v b t → k < revolutions b → (reading q t k).offset ≡ (reading b t k).offset
  pub counts : (t k : ℕ) → Present v b t → k < revolutions b → (reading q t k).count ≡ (reading b t k).count
  -- a rewrite meets the same claims, and stands on a byte that is claimed twice if and only if it did
  pub claimed : (t k : ℕ) → claims v q t k ≡ claims v b t k
  pub sharing : (t k : ℕ) → Present v b t → k < revolutions b → ClaimedTwice v q t k ↔ ClaimedTwice v b t k
  -- so every rewrite by this edition is accepted or refused as it was
  pub refusals : (t k : ℕ) (ws : List ℕ) → rewrite_fault v q t k ws ≡ rewrite_fault v b t k ws

-- U-4: calls whose rewrites all name the edition v and have as many words as are there keep the layout.
abbrev pub LayoutStays : Type 0
LayoutStays =
    (v : Edition) (b : List ℕ) (cs : List Call) → AllFit cs → AllName v cs → Each AsMany b cs → SameLayout v b (final_bytes b cs)
