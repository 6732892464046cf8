-- The sharing rule by byte indices (W-2, W-3, W-5), and the claim that it is the rule by extents (W-6).
use Rattle.std.specs.Prelude.{ℕ, ◌+◌, ◌*◌, ◌<◌, ◌≡◌, ◌↔◌, ◌⊎◌, ◌≢◌, List, true}
use Rattle.octets.specs.Numbers.{le16_at}
use Rattle.scp_fields.specs.declared.Edition.{Edition}
use Rattle.scp_fields.specs.Editions.{slots, table_end}
use Rattle.scp_fields.specs.Header.{footer_size, revolutions, has_footer, track_entry}
use Rattle.scp_fields.specs.Footer.{footer_at, string_slots, string_entry}
use Rattle.scp_tracks.specs.Tracks.{header_size, revolution_at, count_at, flux_at}
use Rattle.scp_sharing.specs.Extents.{extent, In}
use Rattle.scp_sharing.specs.Claims.{stand_at, shared}

-- W-3: track t is there: the edition's table has an entry for it, which is not 0.
abbrev pub Present : Edition → List ℕ → ℕ → Type 0
Present v b t = (t < slots v) × (track_entry b t ≢ 0)

-- W-2: byte i is one of the 8 bytes of duration and count of revolution k of track t.
abbrev pub InNumbers : List ℕ → ℕ → ℕ → ℕ → Type 0
InNumbers b t k i = In i (extent (revolution_at (track_entry b t) k) 8)

-- W-2: byte i is one of its flux bytes.
abbrev pub InFlux : List ℕ → ℕ → ℕ → ℕ → Type 0
InFlux b t k i = In i (extent (flux_at b (track_entry b t) k) (2 * count_at b (track_entry b t) k))

-- W-3: byte i is in the track data header of track t.
abbrev pub InHeader : List ℕ → ℕ → ℕ → Type 0
InHeader b t i = In i (extent (track_entry b t) (header_size b))

-- W-2: a rewrite of revolution k of track t stands on byte i.
abbrev pub Stands : List ℕ → ℕ → ℕ → ℕ → Type 0
Stands b t k i = InNumbers b t k i ⊎ InFlux b t k i

-- W-3: byte i is claimed by others than revolution k of track t: the first 680 or 688 bytes, its own track data header outside the 8 bytes, every
-- other track data header whole, every other revolution's flux, the footer, every present string with its length and its zero byte.
pub data Claimed (v : Edition) (b : List ℕ) (t k i : ℕ) : Type 0 where
  front : i < table_end v → Claimed v b t k i
  own_header : InHeader b t i → (InNumbers b t k i → ⊥) → Claimed v b t k i
  other_header : (u : ℕ) → Present v b u → u ≢ t → InHeader b u i → Claimed v b t k i
  other_flux : (u j : ℕ) → Present v b u → j < revolutions b → ((u ≡ t) × (j ≡ k) → ⊥) → InFlux b u j i → Claimed v b t k i
  footer : has_footer v b ≡ true → In i (extent (footer_at b) footer_size) → Claimed v b t k i
  string : (j : ℕ) → has_footer v b ≡ true → j < string_slots → string_entry b j ≢ 0
      → In i (extent (string_entry b j) (3 + le16_at b (string_entry b j))) → Claimed v b t k i

-- W-5: a byte is claimed twice: one that the rewrite stands on is claimed by others, or its 8 bytes and its flux have one in common.
pub data ClaimedTwice (v : Edition) (b : List ℕ) (t k : ℕ) : Type 0 where
  by_others : (i : ℕ) → Stands b t k i → Claimed v b t k i → ClaimedTwice v b t k
  by_itself : (i : ℕ) → InNumbers b t k i → InFlux b t k i → ClaimedTwice v b t k

-- W-6: by any edition, the rule by extents is the rule by bytes, for a revolution of a present track.
abbrev pub SharedExactly : Type 0
SharedExactly =
    (v : Edition) (b : List ℕ) (t k : ℕ) → Present v b t → k < revolutions b
    → (shared v b (stand_at b (track_entry b t) k) t k ≡ true) ↔ ClaimedTwice v b t k
