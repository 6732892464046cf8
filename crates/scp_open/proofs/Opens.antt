-- An image opens exactly if it obeys: each test of a refusal fails exactly if its rule holds, and no refusal is found exactly if each test
-- fails. Findings are compared by their number, which is 0 just for none.
use Prim.Native.Nat.{ℕ, ◌+◌, ◌-◌, ◌<◌, ◌≤◌}
use mathlib.Core.Path.{◌≡◌, refl, sym, ap}
use mathlib.Core.Logic.{◌↔◌, ◌≢◌, inl, inr, ⊎_map}
use mathlib.Core.List.{List}
use mathlib.Core.Bool.{Bool, true, false, not, ◌&&◌, ◌||◌, and-eq-true_iff, true≢false}
use native.Mathlib.Omega.{arith}
use lib.ListN.{length}
use lib.Dec.{eqb, ltb}
use borrow.Author.Tests.{ltb-false, le-ltb, eqb-true, eqb-false, eq-eqb, ne_eqb, not-false}
use Rattle.octets.specs.Numbers.{byte_at, le16_at}
use Rattle.refusals.specs.Refusals.{Fault, none}
use Rattle.scp_fields.specs.declared.Edition.{Edition}
use Rattle.scp_fields.specs.Editions.{slots, last_track, table_end}
use Rattle.scp_fields.specs.Header.{size_limit, revolutions, start_track, end_track, read_write, has_footer, width, heads, track_entry, data_end}
use Rattle.scp_fields.proofs.EditionLaws.{slots_least}
use Rattle.scp_header.specs.HeaderTests.{bad_size, bad_sign, bad_width, bad_revolutions, bad_span, bad_heads}
use Rattle.scp_fields.specs.Footer.{footer_at, footer_least, string_slots, string_entry}
use Rattle.utf8_theorems.proofs.Meaning.{well_formed_is_text}
use Rattle.scp_footer.specs.Footer.{bad_footer, zero_at, zero_within, bad_string_of, bad_string, string_bytes, bad_text, string_fault_at, string_fault, strings_fault, footer_fault}
use Rattle.scp_tracks.specs.Tracks.{head_of, header_size, bad_slot, bad_mark, bad_track, flux_past, bad_flux, track_fault_at, track_fault, tracks_fault}
use Rattle.scp_header.specs.HeaderFault.{header_fault}
use Rattle.scp_open.specs.Opening.{open_fault}
use Rattle.scp_open.specs.Validity.{StringHolds, FooterHolds, TrackHolds, Opens, OpensExactly}
use Rattle.refusals.proofs.Finding.{either, neither, from_none, none_from, not_refused, pass, not_excused, excuse, both_clear, clear_both, clear_below, Clear, clear_first, clear_from_all}

-- ---- tests

-- the second test fails where the first holds
not_both : (x y : Bool) → x && y ≡ false → x ≡ true → y ≡ false
not_both true y e q = e
not_both false y e q = absurd (true≢false (sym q))

never_both : (x y : Bool) → (x ≡ true → y ≡ false) → x && y ≡ false
never_both true y h = h refl
never_both false y h = refl

-- a byte of a mark, and what is tested after it
marked : (a v : ℕ) (rest : Bool) → eqb a v && rest ≡ true → (a ≡ v) × (rest ≡ true)
marked a v rest e = let r = (and-eq-true_iff (eqb a v) rest).0 e in (eqb-true a v r.0, r.1)

three_marked : (a v b w c x : ℕ) → eqb a v && (eqb b w && eqb c x) ≡ true → (a ≡ v) × (b ≡ w) × (c ≡ x)
three_marked a v b w c x e =
    let first = marked a v _ e in
    let second = marked b w _ first.1 in
    (first.0, second.0, eqb-true c x second.1)

-- ---- strings

module _ (v : Edition) (b : List ℕ) (o : ℕ) where
  string_good : bad_string v b o ≡ false → bad_text b o ≡ false → StringHolds v b o
  unfolding bad_string_of
  string_good e t =
      let n = le16_at b o in
      let above = neither (ltb o (table_end v)) _ e in
      let below = neither (ltb (data_end v b) (o + 3 + n)) _ above.1 in
      let zeros = neither (zero_within b (o + 2) n) _ below.1 in
      record {
        above = ltb-false _ (table_end v) above.0;
        below = ltb-false (data_end v b) _ below.0;
        nonzero = λ i h. eqb-false _ 0 (from_none (zero_at b) (o + 2) n zeros.0 (o + 2 + i) (omega arith) (omega arith));
        ending = eqb-true _ 0 (not-false _ zeros.1);
        text = (well_formed_is_text (string_bytes b o)).0 (not-false _ t);
      }

  zero_free : (n : ℕ) → ((i : ℕ) → i < n → byte_at b (o + 2 + i) ≢ 0) → zero_within b (o + 2) n ≡ false
  zero_free n h =
      none_from (zero_at b) (o + 2) n (λ j a z.
      let i : o + 2 + (j - (o + 2)) ≡ j = omega arith in
      ne_eqb (byte_at b j) 0 (rw i at (h (j - (o + 2)) (omega arith))))

  good_string : StringHolds v b o → bad_string v b o ≡ false
  unfolding bad_string_of
  good_string h = simp (le-ltb _ _ h.above, le-ltb _ _ h.below, zero_free _ h.nonzero, h.ending)

  good_text : StringHolds v b o → bad_text b o ≡ false
  good_text h = simp ((well_formed_is_text (string_bytes b o)).1 h.text)

pub string_holds : (v : Edition) (b : List ℕ) (o j : ℕ) → ((string_fault_at v b o j).number ≡ 0) ↔ (o ≢ 0 → StringHolds v b o)
unfolding string_fault_at
string_holds v b o j = (
  λ e n.
      let placed = not_refused (bad_string v b o) 7 j _ (not_excused (eqb o 0) _ e (ne_eqb o 0 n)) in
      string_good v b o placed.0 (not_refused (bad_text b o) 18 j none placed.1).0,
  λ h. excuse (eqb o 0) _ (λ n.
      let hold = h (eqb-false o 0 n) in
      pass (bad_string v b o) _ _ (good_string v b o hold) (pass (bad_text b o) _ none (good_text v b o hold) refl)),
)

pub strings_hold : (v : Edition) (b : List ℕ)
    → ((strings_fault v b).number ≡ 0) ↔ ((j : ℕ) → j < string_slots → string_entry b j ≢ 0 → StringHolds v b (string_entry b j))
strings_hold v b = clear_below (string_fault v b) _ string_slots (λ j. string_holds v b (string_entry b j) j)

-- ---- the footer

module _ (v : Edition) (b : List ℕ) where
  -- "FPCS" is there
  abbrev footer_signed : Bool
  footer_signed =
      eqb (byte_at b (footer_at b + 0x2C)) 0x46 && (eqb (byte_at b (footer_at b + 0x2D)) 0x50
      && (eqb (byte_at b (footer_at b + 0x2E)) 0x43 && eqb (byte_at b (footer_at b + 0x2F)) 0x53))

  footer_good : (footer_fault v b).number ≡ 0 → has_footer v b ≡ true → FooterHolds v b
  unfolding footer_fault
  footer_good e f =
      let footer = not_refused (bad_footer v b) 6 0 _ e in
      let room = neither (ltb (length b) (footer_least v)) _ (not_both (has_footer v b) _ footer.0 f) in
      let sign = neither (not footer_signed) _ room.1 in
      let first = marked _ 0x46 _ (not-false footer_signed sign.0) in
      let others = three_marked _ 0x50 _ 0x43 _ 0x53 first.1 in
      record {
        room = ltb-false _ (footer_least v) room.0;
        sign = (first.0, others.0, others.1, others.2);
        version = ltb-false _ 0x16 sign.1;
        strings = (strings_hold v b).0 (not_excused (not (has_footer v b)) _ footer.1 (simp f));
      }

  good_footer : (has_footer v b ≡ true → FooterHolds v b) → (footer_fault v b).number ≡ 0
  unfolding footer_fault
  good_footer hold =
      pass (bad_footer v b) _ _ (never_both (has_footer v b) _ (λ f. whole (hold f)))
      (excuse (not (has_footer v b)) _ (λ f. (strings_hold v b).1 (hold (not-false _ f)).strings))
    where
      whole : FooterHolds v b → ltb (length b) (footer_least v) || (not footer_signed || ltb (byte_at b (footer_at b + 0x2B)) 0x16) ≡ false
      whole h = simp (le-ltb _ _ h.room, h.sign.0, h.sign.1, h.sign.2, h.sign.3, le-ltb _ _ h.version)

  pub footer_holds : ((footer_fault v b).number ≡ 0) ↔ (has_footer v b ≡ true → FooterHolds v b)
  footer_holds = (footer_good, good_footer)

-- ---- a track

module _ (v : Edition) (b : List ℕ) (e t : ℕ) where
  track_good : (track_fault_at v b e t).number ≡ 0 → e ≢ 0 → TrackHolds v b e t
  unfolding track_fault_at bad_track
  track_good z n =
      let slot = not_refused (bad_slot b t) 8 t _ (not_excused (eqb e 0) _ z (ne_eqb e 0 n)) in
      let track = not_refused (bad_track v b e t) 9 t _ slot.1 in
      let flux = (not_refused (bad_flux v b e) 10 t none track.1).0 in
      let low = neither (ltb e (table_end v)) _ track.0 in
      let high = neither (ltb (data_end v b) (e + header_size b)) (bad_mark b e t) low.1 in
      let from = neither (ltb t (start_track b)) _ slot.0 in
      let to = neither (ltb (end_track b) t) _ from.1 in
      let side = neither (eqb (heads b) 1 && eqb (head_of t) 1) _ to.1 in
      let first = marked (byte_at b e) 0x54 _ (not-false _ high.1) in
      let others = three_marked (byte_at b (e + 1)) 0x52 (byte_at b (e + 2)) 0x4B (byte_at b (e + 3)) t first.1 in
      record {
        from = ltb-false _ (start_track b) from.0;
        to = ltb-false (end_track b) _ to.0;
        even = λ h. let c = eqb-false (head_of t) 1 (not_both _ _ side.0 (eq-eqb _ _ h)) in omega arith;
        odd = λ h. let c = eqb-false (head_of t) 0 (not_both _ _ side.1 (eq-eqb _ _ h)) in omega arith;
        above = ltb-false _ (table_end v) low.0;
        below = ltb-false (data_end v b) _ high.0;
        sign = (first.0, others.0, others.1);
        number = others.2;
        flux = λ k h. ltb-false (data_end v b) _ (from_none (flux_past (data_end v b) b e) 0 (revolutions b) flux k (omega arith) (omega arith));
      }

  good_track : (e ≢ 0 → TrackHolds v b e t) → (track_fault_at v b e t).number ≡ 0
  unfolding track_fault_at bad_track
  good_track hold =
      excuse (eqb e 0) _ (λ n.
      let h = hold (eqb-false e 0 n) in
      let even : eqb (heads b) 1 && eqb (head_of t) 1 ≡ false = never_both _ _ (λ q. simp (h.even (eqb-true _ _ q))) in
      let odd : eqb (heads b) 2 && eqb (head_of t) 0 ≡ false = never_both _ _ (λ q. simp (h.odd (eqb-true _ _ q))) in
      pass (bad_slot b t) _ _ (simp (le-ltb _ _ h.from, le-ltb _ _ h.to, even, odd))
      (pass (bad_track v b e t) _ _ (simp (le-ltb _ _ h.above, le-ltb _ _ h.below, h.sign.0, h.sign.1, h.sign.2, eq-eqb _ _ h.number))
      (pass (bad_flux v b e) _ none (none_from (flux_past (data_end v b) b e) 0 (revolutions b) (λ k a z. le-ltb _ _ (h.flux k (omega arith)))) refl)))

  pub track_holds : ((track_fault_at v b e t).number ≡ 0) ↔ (e ≢ 0 → TrackHolds v b e t)
  track_holds = (track_good, good_track)

pub tracks_hold : (v : Edition) (b : List ℕ)
    → ((tracks_fault v b).number ≡ 0) ↔ ((t : ℕ) → t < slots v → track_entry b t ≢ 0 → TrackHolds v b (track_entry b t) t)
tracks_hold v b = clear_below (track_fault v b) _ (slots v) (λ t. track_holds v b (track_entry b t) t)

-- ---- opening

module _ (v : Edition) (b : List ℕ) where
  pub opens : (open_fault v b).number ≡ 0 → Opens v b
  unfolding open_fault header_fault bad_size
  opens e =
      let found = both_clear (header_fault v b) _ e in
      let rest = both_clear (footer_fault v b) (tracks_fault v b) found.1 in
      let size = not_refused (bad_size v b) 0 0 _ found.0 in
      let sign = not_refused (bad_sign b) 1 0 _ size.1 in
      let words = not_refused (bad_width b) 2 0 _ sign.1 in
      let turns = not_refused (bad_revolutions b) 3 0 _ words.1 in
      let span = not_refused (bad_span v b) 4 0 _ turns.1 in
      let sides = not_refused (bad_heads b) 5 0 none span.1 in
      let lengths = neither (ltb (length b) (table_end v)) _ size.0 in
      let some = neither (eqb (revolutions b) 0) _ turns.0 in
      let nonzero = eqb-false (revolutions b) 0 some.0 in
      let ends = neither (ltb (end_track b) (start_track b)) _ span.0 in
      record {
        least = ltb-false _ (table_end v) lengths.0;
        most = ltb-false size_limit _ lengths.1;
        sign = three_marked _ 0x53 _ 0x43 _ 0x50 (not-false _ sign.0);
        word_width = ⊎_map (eqb-true _ 0) (eqb-true _ 16) (either (eqb (width b) 0) _ (not-false _ words.0));
        revolutions_least = omega arith;
        read_write_one = λ w. let single = ltb-false 1 (revolutions b) (not_both (read_write b) _ some.1 w) in omega arith;
        span = ltb-false _ (start_track b) ends.0;
        span_end = let h = ltb-false (last_track v) (end_track b) ends.1 in omega (arith, slots_least v);
        sides = ltb-false 2 _ sides.0;
        footer = (footer_holds v b).0 rest.0;
        tracks = (tracks_hold v b).0 rest.1;
      }

  pub clears : Opens v b → (open_fault v b).number ≡ 0
  unfolding open_fault header_fault bad_size
  clears h =
      let some : revolutions b ≢ 0 = λ z. omega arith in
      let turns : read_write b && ltb 1 (revolutions b) ≡ false = never_both (read_write b) _ (λ w. simp (h.read_write_one w)) in
      let last : end_track b ≤ last_track v = omega arith in
      clear_both (header_fault v b) _
      (pass (bad_size v b) _ _ (simp (le-ltb _ _ h.least, le-ltb _ _ h.most))
      (pass (bad_sign b) _ _ (simp (h.sign.0, h.sign.1, h.sign.2))
      (pass (bad_width b) _ _ (elim h.word_width [ inl w ↦ simp w | inr w ↦ simp w ])
      (pass (bad_revolutions b) _ _ (simp (ne_eqb _ _ some, turns))
      (pass (bad_span v b) _ _ (simp (le-ltb _ _ h.span, le-ltb _ _ last))
      (pass (bad_heads b) _ none (le-ltb _ _ h.sides) refl))))))
      (clear_both (footer_fault v b) (tracks_fault v b) ((footer_holds v b).1 h.footer) ((tracks_hold v b).1 h.tracks))

-- a finding of opening with number 0 is none
pub clear_open : (v : Edition) (b : List ℕ) → Clear (open_fault v b)
unfolding open_fault
clear_open v b =
    clear_first (header_fault v b) _ (clear_first (footer_fault v b) (tracks_fault v b) (clear_from_all (track_fault v b) 0 (slots v)))

pub opens_exactly : OpensExactly
opens_exactly v b = (λ e. opens v b (ap (λ (f : Fault). f.number) e), λ h. clear_open v b (clears v b h))
