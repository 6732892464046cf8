-- The bytes after a rewrite and the one that takes it back: numbers and flux read as before, so their bytes are as before; the bytes off them
-- are set by neither; so the true sum is as before, and with the distance from it the stored checksum, too.
use Prim.Native.Nat.{ℕ, ◌+◌, ◌*◌, ◌<◌}
use mathlib.Core.Path.{◌≡◌, refl, sym, ap, ◌∙◌}
use mathlib.Core.Logic.{◌⊎◌, inl, inr}
use mathlib.Core.List.{List}
use mathlib.Core.Bool.{Bool, true, false}
use native.Mathlib.Decide.{dec_le}
use native.Mathlib.Omega.{arith}
use lib.ListN.{length, drop, length-take, length-drop}
use lib.Seq.{ext_get_or, get_or-drop}
use Rattle.octets.specs.Numbers.{byte_at, Octets, le32_at}
use Rattle.octets.specs.Sums.{byte_sum}
use Rattle.octets.proofs.Numbers.{Agree, le_agree, le_bound}
use Rattle.copies.proofs.Parts.{part_agree}
use Rattle.scp_fields.specs.declared.Edition.{Edition}
use Rattle.scp_fields.specs.Header.{checksum_at, read_write, stored_sum, true_sum, track_entry}
use Rattle.scp_tracks.specs.Tracks.{revolution_at, count_at, flux_at}
use Rattle.scp_sharing.specs.Extents.{extent, In}
use Rattle.scp_sharing.specs.Sharing.{InNumbers}
use Rattle.scp_sharing.proofs.Asked.{Asked}
use Rattle.scp_rewrite.specs.OneRewrite.{reading, distance, Rewrites}
use Rattle.scp_rewrite.proofs.Kept.{Kept}
use Rattle.scp_undo.specs.Layout.{SameLayout}

-- What a revolution reads on an image that opens has the length that its count says.
pub words_length : (v : Edition) (b : List ℕ) (t k : ℕ) → Asked v b t k → length (reading b t k).words ≡ 2 * (reading b t k).count
unfolding reading
words_length v b t k s =
    let h = (s.opens.tracks t s.present.0 s.present.1).flux k s.below in
    simp (length-take, length-drop) (omega arith)

-- A byte lies in an extent, or it does not.
in_or_off : (i s n : ℕ) → In i (extent s n) ⊎ (In i (extent s n) → ⊥)
in_or_off i s n =
    elim (dec_le s i) [
      | yes l ↦ elim (dec_le (s + n) i) [ yes m ↦ inr (λ h. omega arith) | no m ↦ inl (l, omega arith) ]
      | no l ↦ inr (λ h. l h.0)
    ]

-- r is what is left of b by a rewrite to q with as many words, and by the one that takes it back
module _ (v : Edition) (b q r : List ℕ) (t k d : ℕ) (ws : List ℕ) (asks : Asked v b t k) (same : length ws ≡ 2 * (reading b t k).count)
    (f : Rewrites b q t k d ws) (layout : SameLayout v b q) (g : Rewrites q r t k (reading b t k).duration (reading b t k).words)
    (kept : Kept b r) (hb : Octets b) where
  abbrev e : ℕ
  e = track_entry b t

  hr : Octets r
  hr = kept.octets hb

  entry : track_entry q t ≡ e
  entry = layout.tracks t asks.present.0

  offset : flux_at q (track_entry q t) k ≡ flux_at b e k
  unfolding reading
  offset = layout.offsets t k asks.present asks.below

  length_back : length (reading b t k).words ≡ length ws
  length_back = words_length v b t k asks ∙ sym same

  -- ---- the revolution's own bytes

  on_duration : Agree r b (revolution_at e k) 4
  unfolding reading
  on_duration = le_agree 4 r b (revolution_at e k) hr hb (rw entry at g.duration)

  on_count : Agree r b (revolution_at e k + 4) 4
  unfolding reading
  on_count =
      let n = words_length v b t k asks in
      let c : le32_at r (revolution_at (track_entry q t) k + 4) ≡ le32_at b (revolution_at e k + 4) = g.count ∙ (omega arith) in
      le_agree 4 r b (revolution_at e k + 4) hr hb (rw entry at c)

  on_numbers : (i : ℕ) → InNumbers b t k i → byte_at r i ≡ byte_at b i
  on_numbers i h =
      elim (dec_le (revolution_at e k + 4) i) [
        | yes l ↦ on_count i l (omega arith)
        | no l ↦ on_duration i h.0 (omega arith)
      ]

  on_flux : Agree r b (flux_at b e k) (length ws)
  unfolding reading
  on_flux =
      let m : 2 * count_at b e k ≡ length ws = sym same in
      part_agree (length ws) r b (flux_at b e k) (rw (offset, length_back, m) at g.words)

  -- ---- all but the checksum

  off : (i : ℕ) → (InNumbers b t k i → ⊥) → (In i (extent (flux_at b e k) (length ws)) → ⊥) → (In i (extent checksum_at 4) → ⊥)
      → byte_at r i ≡ byte_at b i
  off i h m c =
      let x = entry in
      let y = offset in
      let n = length_back in
      g.rest i (λ z. h (omega arith)) (λ z. m (omega arith)) c ∙ f.rest i h m c

  off_sum : (i : ℕ) → (In i (extent checksum_at 4) → ⊥) → byte_at r i ≡ byte_at b i
  off_sum i c =
      elim (in_or_off i (revolution_at e k) 8) [
        | inl h ↦ on_numbers i h
        | inr h ↦ elim (in_or_off i (flux_at b e k) (length ws)) [
          | inl m ↦ on_flux i m.0 m.1
          | inr m ↦ off i h m c
        ]
      ]

  -- ---- the checksum

  same_true : true_sum r ≡ true_sum b
  unfolding true_sum
  same_true =
      ap byte_sum
      (ext_get_or 0 (drop 0x10 r) (drop 0x10 b) (simp length-drop (rw kept.size)) (λ i l.
      rw (get_or-drop 0x10 r i 0, get_or-drop 0x10 b i 0) (off_sum (0x10 + i) (omega arith))))

  same_stored : read_write b ≡ false → stored_sum r ≡ stored_sum b
  unfolding distance true_sum
  same_stored w =
      let x : stored_sum b < 4_294_967_296 = le_bound 4 b checksum_at hb in
      let y : stored_sum r < 4_294_967_296 = le_bound 4 r checksum_at hr in
      let z = kept.read_only w in
      let s = same_true in
      omega arith

  on_sum : (i : ℕ) → In i (extent checksum_at 4) → byte_at r i ≡ byte_at b i
  on_sum i h = by (read_write b) refl
    where
      by : (x : Bool) → read_write b ≡ x → byte_at r i ≡ byte_at b i
      by true w = kept.read_written w i h
      by false w = le_agree 4 r b checksum_at hr hb (same_stored w) i h.0 h.1

  pub restored : r ≡ b
  restored = ext_get_or 0 r b kept.size (λ i l. elim (in_or_off i checksum_at 4) [ inl h ↦ on_sum i h | inr h ↦ off_sum i h ])
