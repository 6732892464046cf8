-- The bytes that an accepted rewrite leaves: its stores lie in the image, off the checksum and off one another, so each reads back and
-- no other byte moves; the checksum's store lies before 0x10, so it does not move the true sum.
use Rattle.std.proofs.Common.{◌≡◌, ℕ, ◌+◌, ◌/◌, ◌<◌, ◌≤◌, Bool, true, false, cond, List, length, take, drop, refl, ap, ◌∙◌, inl, inr, zero-add, arith}
use native.Mathlib.Decide.{dec_le}
use lib.Seq.{sets, length-sets, take-length}
use Rattle.octets.specs.Numbers.{byte_at, Octets, le32_at, le_bytes}
use Rattle.octets.specs.Sums.{byte_sum}
use Rattle.octets.proofs.Numbers.{Apart, byte_apart, byte_inside, drop_sets, le_same, le_apart, le_length, le_read_same, le_octets, sets_octets}
use Rattle.copies.proofs.Parts.{part_same}
use Rattle.scp_fields.specs.declared.Edition.{Edition}
use Rattle.scp_fields.specs.Header.{checksum_at, read_write, stored_sum, true_sum, track_entry}
use Rattle.scp_tracks.specs.Tracks.{revolution_at, duration_at, count_at, flux_at}
use Rattle.scp_sharing.specs.Extents.{extent, In}
use Rattle.scp_rewrite.specs.Rewriting.{patched, moved, summed, rewritten}
use Rattle.scp_rewrite.specs.Steps.{Patchable}
use Rattle.scp_sharing.specs.Sharing.{InNumbers, front, by_itself}
use Rattle.scp_sharing.proofs.Accepted.{Accepted, unset}

-- ---- parts and stores

-- A byte that is not in an extent lies before or behind it.
outside : (i n j : ℕ) → (In j (extent i n) → ⊥) → Apart j 1 i n
outside i n j h = elim (dec_le (i + n) j) [ yes g ↦ inr g | no g ↦ inl (before g) ]
  where
    before : ¬ (i + n ≤ j) → j + 1 ≤ i
    before g = elim (dec_le i j) [ yes l ↦ absurd (h (l, omega arith)) | no l ↦ omega arith ]

-- A number of four bytes put at i leaves the bytes off it.
number_off : (v : ℕ) (b : List ℕ) (i j : ℕ) → (In j (extent i 4) → ⊥) → byte_at (sets b i (le_bytes 4 v)) j ≡ byte_at b j
number_off v b i j h = byte_apart (le_bytes 4 v) b i j (rw (le_length 4 v) (outside i 4 j h))

-- ---- the revolution patched

module _ (b : List ℕ) (e k d : ℕ) (ws : List ℕ) where
  -- where its numbers and its flux stand, and the count to be
  abbrev at : ℕ
  at = revolution_at e k

  abbrev offset : ℕ
  offset = flux_at b e k

  abbrev n : ℕ
  n = length ws / 2

  -- after the store of the words, after that of the duration, and after all three
  abbrev worded : List ℕ
  worded = sets b offset ws

  abbrev timed : List ℕ
  timed = sets worded at (le_bytes 4 d)

  abbrev patch : List ℕ
  patch = patched b e k d ws

  timed_size : length timed ≡ length b
  timed_size = simp length-sets

  patched_size : length patch ≡ length b
  unfolding patched
  patched_size = simp length-sets

  patched_duration : d < 4_294_967_296 → at + 8 ≤ length b → duration_at patch e k ≡ d
  unfolding patched
  patched_duration small room =
      le_apart 4 (le_bytes 4 n) timed (at + 4) at (inl (omega arith))
      ∙ le_read_same 4 d worded at small (rw (length-sets b offset ws) (omega arith))

  patched_count : n < 4_294_967_296 → at + 8 ≤ length b → count_at patch e k ≡ n
  unfolding patched
  patched_count small room = le_read_same 4 n timed (at + 4) small (rw timed_size (omega arith))

  patched_off : (i : ℕ) → (In i (extent at 8) → ⊥) → byte_at patch i ≡ byte_at worded i
  unfolding patched
  patched_off i h = number_off n timed (at + 4) i (λ l. h (omega arith)) ∙ number_off d worded at i (λ l. h (omega arith))

  patched_rest : (i : ℕ) → (In i (extent at 8) → ⊥) → (In i (extent offset (length ws)) → ⊥) → byte_at patch i ≡ byte_at b i
  patched_rest i h f = patched_off i h ∙ byte_apart ws b offset i (outside offset (length ws) i f)

  patched_octets : Octets b → Octets ws → Octets patch
  unfolding patched
  patched_octets h g =
      sets_octets (le_bytes 4 n) timed (at + 4)
      (sets_octets (le_bytes 4 d) worded at (sets_octets ws b offset h g) (le_octets 4 d)) (le_octets 4 n)

-- ---- the checksum

module _ (b p : List ℕ) where
  abbrev sum : ℕ
  sum = moved (stored_sum b) (true_sum p) (true_sum b)

  -- what holds of p with and without the checksum's store holds of p summed
  either_way : (P : List ℕ → Type 0) → P p → P (sets p checksum_at (le_bytes 4 sum)) → P (summed b p)
  unfolding summed
  either_way P without with = by (read_write b)
    where
      by : (x : Bool) → P (cond x p (sets p checksum_at (le_bytes 4 sum)))
      by true = without
      by false = with

  summed_size : length (summed b p) ≡ length p
  summed_size = either_way (λ q. length q ≡ length p) refl (length-sets p checksum_at (le_bytes 4 sum))

  summed_off : (i : ℕ) → (In i (extent checksum_at 4) → ⊥) → byte_at (summed b p) i ≡ byte_at p i
  summed_off i h = either_way (λ q. byte_at q i ≡ byte_at p i) refl (number_off sum p checksum_at i h)

  summed_octets : Octets p → Octets (summed b p)
  summed_octets h = either_way Octets h (sets_octets (le_bytes 4 sum) p checksum_at h (le_octets 4 sum))

  summed_true : true_sum (summed b p) ≡ true_sum p
  unfolding true_sum
  summed_true =
      either_way (λ q. true_sum q ≡ true_sum p) refl
      (ap byte_sum (drop_sets (le_bytes 4 sum) p checksum_at 0x10 (rw (le_length 4 sum) (omega arith))))

  summed_stored : read_write b ≡ false → 0x10 ≤ length p → stored_sum (summed b p) ≡ sum
  unfolding summed
  summed_stored e h = rw e (le_read_same 4 sum p checksum_at (omega arith) h)

-- ---- the rewrite

pub octets_kept : (b : List ℕ) (t k d : ℕ) (ws : List ℕ) → Octets b → Octets ws → Octets (rewritten b t k d ws)
octets_kept b t k d ws h g = summed_octets b _ (patched_octets b (track_entry b t) k d ws h g)

module _ (v : Edition) (b : List ℕ) (t k d : ℕ) (ws : List ℕ) (a : Accepted v b t k ws) where
  abbrev e : ℕ
  e = track_entry b t

  abbrev p : List ℕ
  p = patched b e k d ws

  abbrev q : List ℕ
  q = rewritten b t k d ws

  -- it stands behind the checksum and inside the image
  pub lies : Patchable b e k (length ws)
  lies =
      let s = a.asks in
      let h = s.opens.tracks t s.present.0 s.present.1 in
      let f = h.flux k s.below in
      record { most = s.opens.most; low = omega arith; high = omega arith; flux_low = omega arith; flux_high = omega arith }

  pub rewritten_size : length q ≡ length b
  rewritten_size = summed_size b p ∙ patched_size b e k d ws

  -- a number off the checksum is that of the patched image
  number_of : (i : ℕ) → 0x10 ≤ i → le32_at q i ≡ le32_at p i
  number_of i h = le_same 4 q p i (λ j l m. summed_off b p j (omega arith))

  pub rewritten_duration : d < 4_294_967_296 → duration_at q e k ≡ d
  rewritten_duration small =
      let l = lies in
      number_of (revolution_at e k) (omega arith) ∙ patched_duration b e k d ws small l.high

  pub rewritten_count : count_at q e k ≡ length ws / 2
  rewritten_count =
      let l = lies in
      let s = a.small in
      number_of (revolution_at e k + 4) (omega arith) ∙ patched_count b e k d ws (omega arith) l.high

  pub rewritten_words : take (length ws) (drop (flux_at b e k) q) ≡ ws
  rewritten_words =
      let l = lies in
      let r = a.room in
      let s = rewritten_size in
      part_same (length ws) q ws (flux_at b e k) 0 (omega arith) (omega arith) (λ j h.
      let i = flux_at b e k + j in
      let off : InNumbers b t k i → ⊥ = λ o. a.unshared (by_itself i o (omega arith)) in
      rw (zero-add j)
      (summed_off b p i (omega arith) ∙ patched_off b e k d ws i off ∙ byte_inside ws b (flux_at b e k) j l.flux_high h))
      ∙ take-length ws

  pub rewritten_rest : (i : ℕ) → (InNumbers b t k i → ⊥) → (In i (extent (flux_at b e k) (length ws)) → ⊥)
      → (In i (extent checksum_at 4) → ⊥) → byte_at q i ≡ byte_at b i
  rewritten_rest i h f c = summed_off b p i c ∙ patched_rest b e k d ws i h f

  -- the checksum moves by the change of the true sum on a read-only image, and stays on a read/write one
  pub sum_moved : read_write b ≡ false → stored_sum q ≡ moved (stored_sum b) (true_sum q) (true_sum b)
  sum_moved r =
      let l = lies in
      rw (summed_true b p) (summed_stored b p r (rw (patched_size b e k d ws) (omega arith)))

  pub sum_stays : read_write b ≡ true → (i : ℕ) → In i (extent checksum_at 4) → byte_at q i ≡ byte_at b i
  unfolding summed
  sum_stays r i h =
      let u = unset a i (front (omega arith)) in
      rw r (patched_rest b e k d ws i u.0 u.1)
