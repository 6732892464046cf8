-- A revolution is present where its number is below the image's, and its offset is the exact sum.
use Prim.Native.Nat.{ℕ, ◌+◌, ◌*◌, ◌<◌, ◌≤◌}
use mathlib.Core.Path.{◌≡◌, refl, sym, ap, ◌∙◌}
use mathlib.Core.List.{List}
use mathlib.Core.Bool.{Bool, true, false, or-true, ◌&&◌, and-eq-true_iff}
use native.Mathlib.Omega.{arith}
use lib.Dec.{eqb, ltb}
use borrow.Author.Tests.{eqb-true, eqb-false, eq-eqb, ltb-true, ltb-false, lt-ltb, le-ltb, le-leb}
use Rattle.refusals.specs.Search.{any_from}
use Rattle.scp_fields.specs.declared.Edition.{Edition}
use Rattle.scp_fields.specs.Editions.{table_end}
use Rattle.scp_fields.specs.Header.{revolutions, data_end}
use Rattle.refusals.proofs.Finding.{neither}
use Rattle.scp_tracks.specs.Tracks.{offset_of, header_size, bad_mark, bad_track, flux_past, bad_flux}
use Rattle.scp_tracks.specs.Revolutions.{record_of}
use Rattle.scp_tracks.specs.declared.FileOffset.{FileOffset}
use Rattle.scp_tracks.specs.declared.RevolutionData.{RevolutionData}

-- a revolution's numbers, one by one
pub data_is : {d d' w w' : ℕ} {p : FileOffset} {n : ℕ} → d ≡ d' → w ≡ w' → p.0 ≡ n
    → ◌≡◌ {A = RevolutionData} (record { duration = d; words = w; offset = p }) (record { duration = d'; words = w'; offset = record { 0 = n } })
data_is {d} {d'} {w} {w'} {p} {n} e f g =
    let q : p ≡ record { 0 = n } = ap (λ (x : ℕ). record { 0 = x }) g in
    cc

-- records with equal numbers
pub record_same : (e : ℕ) {d d' w w' by by' : ℕ} → d ≡ d' → w ≡ w' → by ≡ by' → record_of e d w by ≡ record_of e d' w' by'
record_same e f g h = data_is f g (ap (λ (x : ℕ). e + x) h)

-- ---- a track data header at e, of track t

module _ (v : Edition) (b : List ℕ) (e t : ℕ) where
  pub track_low : e < table_end v → true ≡ bad_track v b e t
  unfolding bad_track
  track_low h = sym (simp (lt-ltb _ _ h))

  pub track_past : data_end v b < e + header_size b → true ≡ bad_track v b e t
  unfolding bad_track
  track_past h = sym (simp (lt-ltb _ _ h, or-true))

  pub track_in : table_end v ≤ e → e + header_size b ≤ data_end v b → bad_mark b e t ≡ bad_track v b e t
  unfolding bad_track
  track_in l h = sym (simp (le-ltb _ _ l, le-ltb _ _ h))

  -- one that is not bad ends with the data or before
  pub track_inside : bad_track v b e t ≡ false → e + header_size b ≤ data_end v b
  unfolding bad_track
  track_inside h =
      let past = (neither (ltb (data_end v b) (e + header_size b)) _ (neither (ltb e (table_end v)) _ h).1).0 in
      ltb-false (data_end v b) (e + header_size b) past

-- four bytes, as one number, are those of another exactly if each is
module _ {a b c d v w : ℕ} (t : ℕ) (v-is : v ≡ a + 256 * b + 65_536 * c + 16_777_216 * d) (w-is : w ≡ 4_936_276 + t * 16_777_216) where
  pub mark_same : a < 256 → b < 256 → c < 256 → d < 256 → t < 256
      → eqb v w ≡ eqb a 0x54 && (eqb b 0x52 && (eqb c 0x4B && eqb d t))
  mark_same ha hb hc hd ht = by (eqb v w) refl
    where
      by : (x : Bool) → eqb v w ≡ x → eqb v w ≡ eqb a 0x54 && (eqb b 0x52 && (eqb c 0x4B && eqb d t))
      by true q =
          let same = eqb-true v w q in
          let ea : a ≡ 0x54 = omega arith in
          let eb : b ≡ 0x52 = omega arith in
          let ec : c ≡ 0x4B = omega arith in
          let ed : d ≡ t = omega arith in
          q ∙ sym (simp (eq-eqb a 0x54 ea, eq-eqb b 0x52 eb, eq-eqb c 0x4B ec, eq-eqb d t ed))
      by false q = q ∙ all _ refl
        where
          all : (x : Bool) → eqb a 0x54 && (eqb b 0x52 && (eqb c 0x4B && eqb d t)) ≡ x → false ≡ x
          all true r =
              let first = (and-eq-true_iff (eqb a 0x54) _).0 r in
              let second = (and-eq-true_iff (eqb b 0x52) _).0 first.1 in
              let third = (and-eq-true_iff (eqb c 0x4B) (eqb d t)).0 second.1 in
              let ea = eqb-true a 0x54 first.0 in
              let eb = eqb-true b 0x52 second.0 in
              let ec = eqb-true c 0x4B third.0 in
              let ed = eqb-true d t third.1 in
              absurd (eqb-false v w q (omega arith))
          all false r = refl

-- ---- offsets

-- flux that reaches d and then n bytes from e reaches past the room behind e exactly if it ends past the room's end
pub room_past : (e room d n : ℕ) → ltb room (d + n) ≡ ltb (e + room) (e + d + n)
room_past e room d n = by (ltb room (d + n)) refl
  where
    by : (t : Bool) → ltb room (d + n) ≡ t → ltb room (d + n) ≡ ltb (e + room) (e + d + n)
    by true h = let past = ltb-true room (d + n) h in h ∙ sym (lt-ltb (e + room) (e + d + n) (omega arith))
    by false h = let within = ltb-false room (d + n) h in h ∙ sym (le-ltb (e + room) (e + d + n) (omega arith))

-- where the room ends with the data, flux past the room is bad
pub room_ends : (v : Edition) (b : List ℕ) (e room : ℕ) → e + room ≡ data_end v b
    → any_from (flux_past (e + room) b e) 0 (revolutions b) ≡ bad_flux v b e
room_ends v b e room q = ap (λ (end : ℕ). any_from (flux_past end b e) 0 (revolutions b)) q

-- two numbers of 32 bits
pub exact_offset : (h d : ℕ) → h < 4_294_967_296 → d < 4_294_967_296 → offset_of h d ≡ h + d
exact_offset h d p q =
    let fits : h + d ≤ 18_446_744_073_709_551_615 = omega arith in
    simp (le-leb (h + d) 18_446_744_073_709_551_615 fits)
