-- The Disc Information Block is not refused exactly if its sign, its geometry and the length of the image are right.
use Prim.Native.Nat.{ℕ, ◌≤◌}
use mathlib.Core.Path.{◌≡◌, refl}
use mathlib.Core.Logic.{◌⊎◌, inl, inr, ⊎_map}
use mathlib.Core.List.{List}
use mathlib.Core.Bool.{not, ◌||◌}
use native.Mathlib.Omega.{arith}
use lib.ListN.{length, take}
use lib.Dec.{eqb}
use borrow.Author.Tests.{ltb-false, le-ltb, eqb-true, eqb-false, ne_eqb, not-false}
use Rattle.refusals.specs.Refusals.{none}
use Rattle.refusals.proofs.Finding.{either, neither, not_refused, pass}
use Rattle.dsk_fields.specs.Fields.{sign_text, info_size, tracks, sides, track_size, image_size}
use Rattle.dsk_fields.proofs.Texts.{begins_part, part_begins}
use Rattle.dsk_header.specs.HeaderFault.{bad_sign, too_short, bad_geometry, bad_length, head_fault}

module _ (b : List ℕ) where
  -- what it is where it is not refused
  pub record Headed : Type 0 where
    pub sign : take 8 b ≡ sign_text
    pub one_or_two : (sides b ≡ 1) ⊎ (sides b ≡ 2)
    pub some : 1 ≤ tracks b
    pub size : info_size ≤ track_size b
    pub whole : image_size b ≤ length b

  pub headed : (head_fault b).number ≡ 0 → Headed
  unfolding head_fault
  headed z =
      let sign = not_refused (bad_sign b) 29 0 _ z in
      let short = not_refused (too_short b) 31 0 _ sign.1 in
      let form = not_refused (bad_geometry b) 30 0 _ short.1 in
      let long = not_refused (bad_length b) 31 0 none form.1 in
      let first = neither (not (eqb (sides b) 1 || eqb (sides b) 2)) _ form.0 in
      let rest = neither (eqb (tracks b) 0) _ first.1 in
      let tracked : 1 ≤ tracks b = omega (arith, eqb-false (tracks b) 0 rest.0) in
      record {
        sign = begins_part sign_text b (not-false _ sign.0);
        one_or_two = ⊎_map (eqb-true _ 1) (eqb-true _ 2) (either (eqb (sides b) 1) _ (not-false _ first.0));
        some = tracked;
        size = ltb-false _ info_size rest.1;
        whole = ltb-false _ (image_size b) long.0;
      }

  pub head_clear : Headed → (head_fault b).number ≡ 0
  unfolding head_fault
  head_clear h =
      let least : info_size ≤ length b = let w = h.whole in omega arith in
      let tracked : tracks b ≡ 0 → ⊥ = λ e. let w = h.some in omega arith in
      let some = ne_eqb (tracks b) 0 tracked in
      let large = le-ltb (track_size b) info_size h.size in
      pass (bad_sign b) _ _ (simp (part_begins sign_text b h.sign))
      (pass (too_short b) _ _ (le-ltb _ _ least)
      (pass (bad_geometry b) _ _ (elim h.one_or_two [
        | inl e ↦ simp (e, some, large)
        | inr e ↦ simp (e, some, large)
      ])
      (pass (bad_length b) _ none (le-ltb _ _ h.whole) refl)))
