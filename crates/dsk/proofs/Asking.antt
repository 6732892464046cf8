-- The chain of refusals of a call: 30 to 35, then 13 for the track and the side, then what comes after.
use Prim.Native.Nat.{ℕ, ◌<◌}
use mathlib.Core.Path.{◌≡◌, refl, sym, ap, ◌∙◌}
use mathlib.Core.List.{List}
use mathlib.Core.Bool.{true, false, ◌||◌}
use lib.Dec.{leb}
use borrow.Author.Tests.{lt-leb, leb-false}
use Rattle.refusals.specs.Refusals.{Fault, none, refusal, refuse_if}
use Rattle.refusals.proofs.Chain.{first_here, first_next}
use Rattle.refusals.proofs.Finding.{neither, both_clear, not_refused, alike_end, alike_refuse, alike_first}
use Rattle.dsk_fields.specs.Fields.{tracks, sides}
use Rattle.dsk_check.specs.Faults.{dsk_fault}
use Rattle.dsk.specs.Questions.{block_then, block_question}

-- ---- what comes after the track and the side

module _ (b : List ℕ) (t s : ℕ) where
  -- the block is there, in an image that is accepted
  pub record BlockThere : Type 0 where
    pub accepted : (dsk_fault b).number ≡ 0
    pub track : t < tracks b
    pub side : s < sides b

  pub then_check : {f : Fault} (rest : Fault) → f ≡ dsk_fault b → (f.number ≡ 0 → ⊥) → f ≡ block_then b t s rest
  unfolding block_then
  then_check rest e n = first_here (dsk_fault b) _ e n

  accepted_then : (rest : Fault) → (dsk_fault b).number ≡ 0
      → refuse_if (leb (tracks b) t || leb (sides b) s) (refusal 13 0) rest ≡ block_then b t s rest
  unfolding block_then
  accepted_then rest z = first_next (dsk_fault b) _ refl z refl

  pub then_absent : (rest : Fault) → (dsk_fault b).number ≡ 0 → leb (tracks b) t || leb (sides b) s ≡ true → refusal 13 0 ≡ block_then b t s rest
  then_absent rest z h = unfold refuse_if in (sym (simp h) ∙ accepted_then rest z)

  pub then_rest : (rest : Fault) → BlockThere → rest ≡ block_then b t s rest
  then_rest rest h =
      unfold refuse_if in
      (sym (simp (lt-leb (tracks b) t h.track, lt-leb (sides b) s h.side)) ∙ accepted_then rest h.accepted)

  -- neither the track nor the side is too high
  pub both_there : (dsk_fault b).number ≡ 0 → leb (tracks b) t || leb (sides b) s ≡ false → BlockThere
  both_there z h =
      let low = neither (leb (tracks b) t) (leb (sides b) s) h in
      record { accepted = z; track = leb-false (tracks b) t low.0; side = leb-false (sides b) s low.1 }

  -- a call that is not refused finds the block
  pub there : (rest : Fault) → (block_then b t s rest).number ≡ 0 → BlockThere
  unfolding block_then
  there rest h =
      let first = both_clear (dsk_fault b) _ h in
      both_there first.0 (not_refused (leb (tracks b) t || leb (sides b) s) 12 0 rest first.1).0

  pub block_passes : BlockThere → (block_question b t s).number ≡ 0
  block_passes h = ap (λ (x : Fault). x.number) (sym (then_rest none h))

-- a block that is refused is refused whatever comes after
pub refused_alike : (b : List ℕ) (t s : ℕ) (rest : Fault) → ((block_question b t s).number ≡ 0 → ⊥) → block_question b t s ≡ block_then b t s rest
unfolding block_then
refused_alike b t s rest =
    alike_first (dsk_fault b) _ _ (alike_refuse (leb (tracks b) t || leb (sides b) s) (refusal 13 0) none rest (alike_end rest))
