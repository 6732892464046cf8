-- What 41 refuses: each test of it fails exactly if its rule holds, and what it answers in each case.
use Prim.Native.Nat.{ℕ, ◌≤◌}
use mathlib.Core.Path.{◌≡◌, refl}
use mathlib.Core.Logic.{◌⊎◌, inl, inr, ⊎_map}
use mathlib.Core.Bool.{Bool, true, false, not, ◌||◌, cond}
use lib.Dec.{eqb, ltb}
use borrow.Author.Tests.{ltb-false, le-ltb, eqb-true, eq-eqb, not-false}
use Rattle.std.specs.Prelude.{Ok, Err}
use Rattle.refusals.specs.Refusals.{Fault, refusal}
use Rattle.refusals.proofs.Finding.{either, neither}
use Rattle.dsk_layout.specs.declared.Layout.{Layout}
use Rattle.dsk_layout.specs.Layouts.{track_length, all_data, bad_numbers, bad_layout, refused_layout, layout_answer, Writable, RefusesExactly}

-- ---- the numbers

pub record Numbers (l : Layout) : Type 0 where
  pub tracks_least : 1 ≤ l.tracks
  pub tracks_most : l.tracks ≤ 255
  pub one_or_two : (l.sides ≡ 1) ⊎ (l.sides ≡ 2)
  pub sectors_most : l.sectors ≤ 29
  pub code_most : l.code ≤ 5
  pub gap_most : l.gap ≤ 255
  pub filler_most : l.filler ≤ 255

module _ (l : Layout) where
  pub numbers : bad_numbers l ≡ false → Numbers l
  numbers e =
      let tracks = neither (ltb l.tracks 1 || ltb 255 l.tracks) _ e in
      let range = neither (ltb l.tracks 1) _ tracks.0 in
      let sides = neither (not (eqb l.sides 1 || eqb l.sides 2)) _ tracks.1 in
      let sectors = neither (ltb 29 l.sectors) _ sides.1 in
      let code = neither (ltb 5 l.code) _ sectors.1 in
      let gap = neither (ltb 255 l.gap) _ code.1 in
      record {
        tracks_least = ltb-false _ 1 range.0;
        tracks_most = ltb-false 255 _ range.1;
        one_or_two = ⊎_map (eqb-true _ 1) (eqb-true _ 2) (either (eqb l.sides 1) _ (not-false _ sides.0));
        sectors_most = ltb-false 29 _ sectors.0;
        code_most = ltb-false 5 _ code.0;
        gap_most = ltb-false 255 _ gap.0;
        filler_most = ltb-false 255 _ gap.1;
      }

-- ---- 41 exactly

module _ (l : Layout) (m n : ℕ) where
  pub writable : bad_layout l m n ≡ false → Writable l m n
  unfolding bad_layout
  writable e =
      let parts = neither (bad_numbers l) _ e in
      let good = numbers l parts.0 in
      let name = neither (not (eqb m 14)) _ parts.1 in
      let size = neither (ltb 65_535 (track_length l)) _ name.1 in
      record {
        tracks_least = good.tracks_least;
        tracks_most = good.tracks_most;
        one_or_two = good.one_or_two;
        sectors_most = good.sectors_most;
        code_most = good.code_most;
        gap_most = good.gap_most;
        filler_most = good.filler_most;
        creator = eqb-true m 14 (not-false _ name.0);
        track_most = ltb-false 65_535 _ size.0;
        content = eqb-true n _ (not-false _ size.1);
      }

  sides_good : (l.sides ≡ 1) ⊎ (l.sides ≡ 2) → not (eqb l.sides 1 || eqb l.sides 2) ≡ false
  sides_good (inl e) = simp e
  sides_good (inr e) = simp e

  not_refused : Writable l m n → bad_layout l m n ≡ false
  unfolding bad_layout
  not_refused w =
      simp (
        le-ltb l.tracks 1 w.tracks_least,
        le-ltb 255 l.tracks w.tracks_most,
        sides_good w.one_or_two,
        le-ltb 29 l.sectors w.sectors_most,
        le-ltb 5 l.code w.code_most,
        le-ltb 255 l.gap w.gap_most,
        le-ltb 255 l.filler w.filler_most,
        eq-eqb m 14 w.creator,
        le-ltb 65_535 (track_length l) w.track_most,
        eq-eqb n (all_data l) w.content,
      )

-- ---- what an answer says

module _ (l : Layout) (m n : ℕ) where
  pub accepted_is : {x : Layout} → Ok x ≡ layout_answer l m n → (x ≡ l) × (bad_layout l m n ≡ false)
  unfolding layout_answer
  accepted_is {x} h = go (bad_layout l m n) h
    where
      go : (t : Bool) → Ok x ≡ cond t refused_layout (Ok l) → (x ≡ l) × (t ≡ false)
      go true h = cc
      go false h = (cc, refl)

  pub refused_is : {f : Fault} → Err f ≡ layout_answer l m n → (f ≡ refusal 41 0) × (bad_layout l m n ≡ true)
  unfolding layout_answer
  refused_is {f} h = go (bad_layout l m n) h
    where
      go : (t : Bool) → Err f ≡ cond t refused_layout (Ok l) → (f ≡ refusal 41 0) × (t ≡ true)
      go true h = (cc, refl)
      go false h = cc

pub refuses_exactly : RefusesExactly
refuses_exactly l m n = (writable l m n, not_refused l m n)
