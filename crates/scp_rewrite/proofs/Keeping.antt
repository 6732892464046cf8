-- An accepted rewrite keeps what others read. It is used here only by its frame, over any q that has it: what others claim, off the
-- checksum, is not set, and every field that opening looks at is claimed, but for the revolution's own count, which only falls.
use Rattle.std.proofs.Common.{◌≡◌, ℕ, ◌+◌, ◌*◌, ◌/◌, ◌<◌, ◌≤◌, true, cond, ◌&&◌, eqb, ◌≢◌, List, length, sym, refl, ap, ◌∙◌, subst, le_of_eq, arith, eq-eqb}
use native.Mathlib.Decide.{ℕ_discrete}
use Rattle.octets.specs.Numbers.{byte_at, le16_at}
use Rattle.octets.proofs.Numbers.{Agree, le_same}
use Rattle.scp_fields.specs.declared.Edition.{Edition}
use Rattle.scp_fields.specs.Editions.{slots}
use Rattle.scp_fields.specs.Header.{checksum_at, footer_size, revolutions, end_track, read_write, has_footer, track_entry, data_end}
use Rattle.scp_fields.specs.Footer.{footer_at, string_slots, string_entry}
use Rattle.scp_fields.proofs.EditionLaws.{bit_same}
use Rattle.scp_tracks.specs.Tracks.{revolution_at, duration_at, count_at, flux_at}
use Rattle.scp_open.specs.Validity.{StringHolds, FooterHolds, TrackHolds, Opens}
use Rattle.scp_sharing.specs.Extents.{extent, In}
use Rattle.scp_sharing.specs.Sharing.{Present, InNumbers, InHeader, Claimed, front, own_header, other_header, other_flux, footer, string}
use Rattle.scp_sharing.proofs.SharedBytes.{other_pair}
use Rattle.scp_sharing.proofs.Accepted.{Accepted, unset}
use Rattle.copies.proofs.Parts.{part_same}
use Rattle.scp_rewrite.specs.OneRewrite.{reading, put, Rewrites}

module _ (v : Edition) (b q : List ℕ) (t k d : ℕ) (ws : List ℕ) (a : Accepted v b t k ws) (f : Rewrites b q t k d ws) where
  o : Opens v b
  o = a.asks.opens

  track : (u : ℕ) → Present v b u → TrackHolds v b (track_entry b u) u
  track u p = o.tracks u p.0 p.1

  -- a byte that others claim, off the checksum, stays
  kept : (i : ℕ) → (In i (extent checksum_at 4) → ⊥) → Claimed v b t k i → byte_at q i ≡ byte_at b i
  kept i off c = let u = unset a i c in f.rest i u.0 u.1 off

  -- ---- the header and the table

  low : (i : ℕ) → i < checksum_at → byte_at q i ≡ byte_at b i
  low i h = kept i (omega arith) (front (omega arith))

  pub same_read_write : read_write q ≡ read_write b
  same_read_write = cc (low 8 (omega arith))

  pub same_has_footer : has_footer v q ≡ has_footer v b
  same_has_footer = cc (bit_same v b q (low 8 (omega arith)))

  same_end : data_end v q ≡ data_end v b
  same_end = cc (bit_same v b q (low 8 (omega arith)), f.size)

  pub same_revolutions : revolutions q ≡ revolutions b
  same_revolutions = low 5 (omega arith)

  pub same_end_track : end_track q ≡ end_track b
  same_end_track = low 7 (omega arith)

  pub same_entry : (u : ℕ) → u < slots v → track_entry q u ≡ track_entry b u
  same_entry u l = le_same 4 q b (0x10 + 4 * u) (λ i h m. kept i (omega arith) (front (omega arith)))

  -- ---- the footer and its strings

  module _ (has : has_footer v b ≡ true) where
    footer_byte : Agree q b (footer_at b) footer_size
    footer_byte i h m = let r = (o.footer has).room in kept i (omega arith) (footer has (h, m))

    pub same_string : (j : ℕ) → j < string_slots → string_entry q j ≡ string_entry b j
    same_string j l =
        rw f.size (le_same 4 q b (footer_at b + 4 * j) (λ i h m. footer_byte i (omega arith) (omega arith)))

    -- its length, its characters and its zero byte
    string_byte : (j : ℕ) → j < string_slots → string_entry b j ≢ 0 → Agree q b (string_entry b j) (3 + le16_at b (string_entry b j))
    string_byte j l n i x y = let above = ((o.footer has).strings j l n).above in kept i (omega arith) (string j has l n (x, y))

    pub same_length : (j : ℕ) → j < string_slots → string_entry b j ≢ 0 → le16_at q (string_entry b j) ≡ le16_at b (string_entry b j)
    same_length j l n = le_same 2 q b (string_entry b j) (λ i x y. string_byte j l n i x (omega arith))

    string_kept : (j : ℕ) → j < string_slots → string_entry b j ≢ 0 → StringHolds v q (string_entry b j)
    string_kept j l n =
        let s = string_entry b j in
        let h = (o.footer has).strings j l n in
        let same = string_byte j l n in
        let size = same_length j l n in
        let end = same_end in
        let room = h.below in
        let bytes = part_same (le16_at b s) q b (s + 2) (s + 2) (omega (arith, f.size)) (omega arith)
        (λ i m. same (s + 2 + i) (omega arith) (omega arith)) in
        record {
          above = h.above;
          below = rw (size, end) h.below;
          nonzero = λ i x. rw (same (s + 2 + i) (omega arith) (omega arith)) (h.nonzero i (omega arith));
          ending = rw size (same (s + 2 + le16_at b s) (omega arith) (omega arith) ∙ h.ending);
          text = rw (size, bytes) h.text;
        }

    footer_kept : FooterHolds v q
    footer_kept =
        let h = o.footer has in
        record {
          room = rw f.size h.room;
          sign = (
            at 0x2C (omega arith) ∙ h.sign.0,
            at 0x2D (omega arith) ∙ h.sign.1,
            at 0x2E (omega arith) ∙ h.sign.2,
            at 0x2F (omega arith) ∙ h.sign.3,
          );
          version = rw (at 0x2B (omega arith)) h.version;
          strings = λ j l n. rw (same_string j l) (string_kept j l (rw (same_string j l) at n));
        }
      where
        at : (i : ℕ) → i < footer_size → byte_at q (footer_at q + i) ≡ byte_at b (footer_at b + i)
        at i h = rw f.size (footer_byte (footer_at b + i) (omega arith) (omega arith))

  -- ---- the tracks

  -- a byte of a track header, if it is not one of the revolution's own 8
  header_byte : (u i : ℕ) → Present v b u → InHeader b u i → (u ≡ t → InNumbers b u k i → ⊥) → byte_at q i ≡ byte_at b i
  header_byte u i p h n =
      let r = (track u p).above in
      kept i (omega arith)
      (elim (ℕ_discrete u t) [
        | yes e ↦ own_header (subst (λ (x : ℕ). InHeader b x i) e h) (subst (λ (x : ℕ). InNumbers b x k i → ⊥) e (n e))
        | no e ↦ other_header u p e h
      ])

  name_kept : (u : ℕ) → Present v b u → Agree q b (track_entry b u) 4
  name_kept u p i h m = header_byte u i p (omega arith) (λ e g. omega arith)

  pub same_offset : (u j : ℕ) → Present v b u → j < revolutions b → flux_at q (track_entry b u) j ≡ flux_at b (track_entry b u) j
  same_offset u j p l =
      ap (λ (n : ℕ). track_entry b u + n)
      (le_same 4 q b (revolution_at (track_entry b u) j + 8) (λ i h m. header_byte u i p (omega arith) (λ e g. omega arith)))

  module _ (u j : ℕ) (p : Present v b u) (l : j < revolutions b) (other : (u ≡ t) × (j ≡ k) → ⊥) where
    numbers_kept : Agree q b (revolution_at (track_entry b u) j) 8
    numbers_kept i h m = header_byte u i p (omega arith) (λ e g. let n : j ≢ k = λ y. other (e, y) in omega arith)

    same_duration : duration_at q (track_entry b u) j ≡ duration_at b (track_entry b u) j
    same_duration = le_same 4 q b (revolution_at (track_entry b u) j) (λ i h m. numbers_kept i h (omega arith))

    pub same_count : count_at q (track_entry b u) j ≡ count_at b (track_entry b u) j
    same_count = le_same 4 q b (revolution_at (track_entry b u) j + 4) (λ i h m. numbers_kept i (omega arith) (omega arith))

  count_falls : (u j : ℕ) → Present v b u → j < revolutions b → count_at q (track_entry b u) j ≤ count_at b (track_entry b u) j
  count_falls u j p l =
      elim (ℕ_discrete u t) [
        | yes e ↦ elim (ℕ_discrete j k) [
          | yes g ↦ rw (e, g) (rw f.count (let v = a.room in omega arith))
          | no g ↦ le_of_eq (same_count u j p l (λ y. g y.1))
        ]
        | no e ↦ le_of_eq (same_count u j p l (λ y. e y.0))
      ]

  track_kept : (u : ℕ) → Present v b u → TrackHolds v q (track_entry b u) u
  track_kept u p =
      let h = track u p in
      let e = track_entry b u in
      let name : Agree q b e 4 = name_kept u p in
      record {
        from = rw (low 6 (omega arith)) h.from;
        to = rw (low 7 (omega arith)) h.to;
        even = λ s. h.even (sym (low 0x0A (omega arith)) ∙ s);
        odd = λ s. h.odd (sym (low 0x0A (omega arith)) ∙ s);
        above = h.above;
        below = rw (same_end, same_revolutions) h.below;
        sign = (
          name e (omega arith) (omega arith) ∙ h.sign.0,
          name (e + 1) (omega arith) (omega arith) ∙ h.sign.1,
          name (e + 2) (omega arith) (omega arith) ∙ h.sign.2,
        );
        number = name (e + 3) (omega arith) (omega arith) ∙ h.number;
        flux = λ j m.
            let l : j < revolutions b = rw same_revolutions at m in
            let offset = same_offset u j p l in
            let count = count_falls u j p l in
            let end = same_end in
            let before = h.flux j l in
            omega arith;
      }

  -- ---- the image opens

  pub opens_kept : Opens v q
  opens_kept =
      record {
        least = rw f.size o.least;
        most = rw f.size o.most;
        sign = (low 0 (omega arith) ∙ o.sign.0, low 1 (omega arith) ∙ o.sign.1, low 2 (omega arith) ∙ o.sign.2);
        word_width = rw (low 9 (omega arith)) o.word_width;
        revolutions_least = rw same_revolutions o.revolutions_least;
        read_write_one = λ w. same_revolutions ∙ o.read_write_one (sym same_read_write ∙ w);
        span = rw (low 6 (omega arith), low 7 (omega arith)) o.span;
        span_end = rw (low 7 (omega arith)) o.span_end;
        sides = rw (low 0x0A (omega arith)) o.sides;
        footer = λ has. footer_kept (sym same_has_footer ∙ has);
        tracks = λ u l n. rw (same_entry u l) (track_kept u (l, rw (same_entry u l) at n));
      }

  -- ---- each revolution reads as put or as before

  pub reading_other : (u j : ℕ) → Present v b u → j < revolutions b → ((u ≡ t) × (j ≡ k) → ⊥) → reading q u j ≡ reading b u j
  unfolding reading
  reading_other u j p l other =
      let e = track_entry b u in
      let h = track u p in
      let s = f.size in
      let room : flux_at b e j + 2 * count_at b e j ≤ length b = omega (arith, h.flux j l) in
      let flux = part_same (2 * count_at b e j) q b (flux_at b e j) (flux_at b e j) (omega arith) room
      (λ i m. kept (flux_at b e j + i) (omega arith) (other_flux u j p l other (omega arith))) in
      cc (same_entry u p.0, same_duration u j p l other, same_count u j p l other, same_offset u j p l, flux)

  pub reading_own : reading q t k ≡ put (reading b t k) d ws
  unfolding reading
  reading_own =
      let p = a.asks.present in
      let two : 2 * (length ws / 2) ≡ length ws = let v = a.even in omega arith in
      cc (same_entry t p.0, f.duration, f.count, same_offset t k p a.asks.below, two, f.words)

  pub reading_kept : (u j : ℕ) → Present v b u → j < revolutions b
      → reading q u j ≡ cond (eqb t u && eqb k j) (put (reading b u j) d ws) (reading b u j)
  reading_kept u j p l =
      elim (ℕ_discrete u t) [
        | yes x ↦ elim (ℕ_discrete j k) [
          | yes y ↦ rw (x, y, eq-eqb t t refl, eq-eqb k k refl) reading_own
          | no y ↦ other (λ z. y z.1)
        ]
        | no x ↦ other (λ z. x z.0)
      ]
    where
      other : ((u ≡ t) × (j ≡ k) → ⊥) → reading q u j ≡ cond (eqb t u && eqb k j) (put (reading b u j) d ws) (reading b u j)
      other n = rw (other_pair t k u j (λ z. n (sym z.0, sym z.1))) (reading_other u j p l n)
