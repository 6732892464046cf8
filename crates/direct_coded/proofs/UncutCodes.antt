-- No refusal of a direct call is cut: 1 to 6, 13 and 14 have position 0, and a track is tested only where the table has it.
use Prim.Native.Nat.{ℕ}
use mathlib.Core.Path.{◌≡◌, refl}
use mathlib.Core.List.{List}
use mathlib.Core.Bool.{Bool, true, false}
use native.Mathlib.Omega.{arith}
use lib.Dec.{eqb, leb}
use borrow.Author.Tests.{leb-false}
use Rattle.refusals.specs.Refusals.{refusal, refuse_if}
use Rattle.scp_fields.specs.declared.Edition.{Edition}
use Rattle.scp_fields.specs.Editions.{slots}
use Rattle.scp_fields.specs.Header.{track_entry}
use Rattle.scp_fields.proofs.EditionLaws.{slots_most}
use Rattle.scp_header.specs.HeaderFault.{header_fault}
use Rattle.scp_tracks.specs.Tracks.{track_fault}
use Rattle.scp_tracks.specs.Revolutions.{revolution_fault}
use Rattle.boundary.proofs.SmallCodes.{Small, small_none, small_first, small_if}
use Rattle.scp_boundary.proofs.UncutCodes.{header_small, track_small, whole_unless}
use Rattle.scp_direct.specs.Direct.{direct_track_question, direct_revolution_question, direct_track, direct_revolution}
use Rattle.direct_coded.specs.Theorems.{DirectUncut}

module _ (v : Edition) (b : List ℕ) (t : ℕ) where
  track_question_small : Small (direct_track_question v b t)
  unfolding direct_track_question refuse_if
  track_question_small = small_first (header_fault v b) _ (header_small v b) (by (leb (slots v) t) refl)
    where
      by : (x : Bool) → leb (slots v) t ≡ x
          → Small (refuse_if x (refusal 13 0) (refuse_if (eqb (track_entry b t) 0) (refusal 13 0) (track_fault v b t)))
      by true h = (omega arith, omega arith)
      by false h =
          let slot = leb-false (slots v) t h in
          small_if (eqb (track_entry b t) 0) (track_fault v b t) 13 (omega arith) (track_small v b t (omega (arith, slots_most v)))

  revolution_question_small : (k : ℕ) → Small (direct_revolution_question v b t k)
  unfolding direct_revolution_question
  revolution_question_small k =
      small_first (direct_track_question v b t) (revolution_fault b k) track_question_small (small_if _ _ 14 (omega arith) small_none)

pub direct_uncut : DirectUncut
unfolding direct_track direct_revolution
direct_uncut =
    record {
      track = λ v b t. whole_unless (direct_track_question v b t) _ (track_question_small v b t) tt;
      revolution = λ v b t k. whole_unless (direct_revolution_question v b t k) _ (revolution_question_small v b t k) tt;
      flux = λ v b t k. whole_unless (direct_revolution_question v b t k) _ (revolution_question_small v b t k) tt;
    }
