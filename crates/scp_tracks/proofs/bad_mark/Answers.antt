-- The mark is compared as one number of four bytes.
use Prim.Native.Nat.{◌+◌}
use mathlib.Core.Path.{refl, ap, ◌∙◌}
use mathlib.Core.Bool.{not}
use borrow.Author.Rules.{rules}
use Rattle.octets.specs.Numbers.{Octets}
use Rattle.octets.proofs.Numbers.{le_four}
use Rattle.scp_tracks.proofs.RevolutionLaws.{mark_same}
use Rattle.scp_tracks.proofs.bad_mark.Goals as goal

pub returns : goal.returns
returns c =
    let a = c.args in
    let b = a.image.now in
    let bytes : Octets b = λ i. search rules in
    let four = c.inner32.ensures ∙ le_four b a.e (a.e + 1) (a.e + 2) (a.e + 3) refl refl refl in
    ap not (mark_same a.t four c.from_le_bytes.ensures (bytes a.e) (bytes (a.e + 1)) (bytes (a.e + 2)) (bytes (a.e + 3)) c.requires.1)
