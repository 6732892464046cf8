-- The three stores of a patch, one after another, leave the patched image, and the sums that they hand back move the checksum by the
-- change; a checksum's store where it is due leaves the image summed.
use Rattle.std.proofs.Common.{◌≡◌, ℕ, ◌+◌, ◌-◌, ◌/◌, ◌<◌, ◌≤◌, true, false, List, length, sym, refl, ap, ◌∙◌, arith, le-leb}
use lib.Seq.{sets, length-sets}
use Rattle.octets.specs.Numbers.{le_bytes, put_at}
use borrow.Rule.Slice.PartMut.{put_mid}
use Rattle.octets.proofs.Numbers.{le_length, put_part}
use Rattle.scp_fields.specs.Header.{checksum_at, read_write, stored_sum, true_sum}
use Rattle.scp_tracks.specs.Tracks.{revolution_at, flux_at}
use Rattle.scp_rewrite.specs.Rewriting.{patched, moved, moved_sum, summed}
use Rattle.scp_rewrite.specs.Steps.{Patchable, Stored}
use Rattle.scp_rewrite.proofs.Moving.{Moved, moved_next, moved_end}

-- ---- bytes put where they fit

put_fits : (b vs : List ℕ) (i : ℕ) → i + length vs ≤ length b → put_at b i vs ≡ sets b i vs
put_fits b vs i h = simp (le-leb (i + length vs) (length b) h)

-- a part of the image made vs
pub put_whole : (b vs part : List ℕ) (i : ℕ) → i + length vs ≤ length b → part ≡ vs → put_mid i (i + length vs - i) b part ≡ sets b i vs
put_whole b vs part i h same = put_part b vs part i (length vs) refl h same ∙ put_fits b vs i h

-- ---- the three stores

stored_size : {p vs q : List ℕ} {i s r : ℕ} → Stored p i vs s q r → length q ≡ length p
stored_size {p} {vs} {q} {i} st = ap length st.bytes ∙ length-sets p i vs

-- at and x are where record and flux were found, v and w are the bytes of duration and count; p, q and r are what the stores leave
module _ (b : List ℕ) (e k d : ℕ) (ws : List ℕ) {at x : ℕ} {v w : List ℕ} (here : at ≡ revolution_at e k) (far : x ≡ flux_at b e k)
    (time : v ≡ le_bytes 4 d) (count : w ≡ le_bytes 4 (length ws / 2)) {p q r : List ℕ} {s₀ s₁ s₂ s₃ : ℕ} (first : Stored b x ws s₀ p s₁)
    (second : Stored p at v s₁ q s₂) (third : Stored q (at + 4) w s₂ r s₃) where
  pub patch_left : r ≡ patched b e k d ws
  unfolding patched
  patch_left = cc

  pub patch_moved : Patchable b e k (length ws) → s₀ ≡ stored_sum b → s₃ < 4_294_967_296 → s₃ ≡ moved_sum b (patched b e k d ws)
  patch_moved h stored small =
      let long : length v ≡ 4 = ap length time ∙ le_length 4 d in
      let wide : length w ≡ 4 = ap length count ∙ le_length 4 (length ws / 2) in
      let n₁ = stored_size first in
      let n₂ = stored_size second in
      let low = h.low in
      let high = h.high in
      let flux_low = h.flux_low in
      let flux_high = h.flux_high in
      let f₁ : Moved b s₀ p s₁ = moved_next b b ws p x s₀ s₀ s₁ (omega arith) (omega arith) refl first in
      let f₂ : Moved b s₀ q s₂ = moved_next b p v q at s₀ s₁ s₂ (omega arith) (omega arith) f₁ second in
      let f₃ : Moved b s₀ r s₃ = moved_next b q w r (at + 4) s₀ s₂ s₃ (omega arith) (omega arith) f₂ third in
      moved_end b r s₀ s₃ small f₃
      ∙ ap (λ (y : ℕ). moved y (true_sum r) (true_sum b)) stored
      ∙ ap (λ (y : List ℕ). moved_sum b y) patch_left

-- q is the patched image
module _ (b p q : List ℕ) (left : q ≡ p) where
  pub summed_kept : read_write b ≡ true → q ≡ summed b p
  unfolding summed
  summed_kept f = left ∙ sym (simp f)

  pub summed_put : {r : List ℕ} {m : ℕ} → read_write b ≡ false → 0x10 ≤ length q → m ≡ moved_sum b p → r ≡ put_at q checksum_at (le_bytes 4 m)
      → r ≡ summed b p
  unfolding summed
  summed_put {r} {m} f h e put =
      let room : checksum_at + length (le_bytes 4 m) ≤ length q = rw (le_length 4 m) h in
      put ∙ put_fits q (le_bytes 4 m) checksum_at room ∙ ap (λ (y : List ℕ). sets y checksum_at (le_bytes 4 m)) left ∙ ap (λ (y : ℕ). sets p checksum_at (le_bytes 4 y)) e
      ∙ sym (simp f)
