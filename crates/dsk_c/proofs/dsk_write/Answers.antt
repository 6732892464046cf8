-- The image is written into the places lent, which is as good as into all: its length comes to `out`, or a refusal is answered.
use Prim.Native.Nat.{ℕ}
use mathlib.Core.Path.{ap, ◌∙◌}
use mathlib.Core.List.{[], ◌∷◌}
use lib.ListN.{length}
use borrow.Author.Rules.{rules}
use Rattle.boundary.specs.Boundary.{Given, code_of, within}
use Rattle.dsk_layout.specs.Layouts.{layout_of}
use Rattle.dsk_c.proofs.Rows.{row_given}
use Rattle.dsk_c.proofs.LentImage.{lent_given}
use Rattle.dsk_c.proofs.dsk_write.Goals as goal

pub returns-clause-value : goal.returns-clause-value
returns-clause-value c =
    let part = c.lent-places in
    let a = c.args in
    let row = row_given (λ (n : ℕ). n ∷ []) c.write-found.result c.map.result c.map.ensures.cases (λ v r p. search rules) in
    let same = lent_given a.creator.now (layout_of a.tracks a.sides a.sectors a.code a.gap a.filler) a.content.now a.image.now (length a.out.now) _ part.ensures.0 part.ensures.1 c.write-found.ensures.value in
    c.answer.ensures.value ∙ ap (λ (g : Given ℕ). code_of (within (length a.out.now) g)) row ∙ ap code_of same
