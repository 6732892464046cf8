-- What a rewrite stands on, and what others claim by the edition that it names: one list of extents (W-2, W-3, W-5).
use Rattle.std.specs.Prelude.{ℕ, ◌+◌, ◌*◌, List, [], ◌∷◌, ◌++◌, Bool, ◌&&◌, ◌||◌, cond, eqb}
use Rattle.octets.specs.Numbers.{le16_at}
use Rattle.scp_fields.specs.declared.Edition.{Edition}
use Rattle.scp_fields.specs.Editions.{slots, table_end}
use Rattle.scp_fields.specs.Header.{footer_size, revolutions, has_footer, track_entry}
use Rattle.scp_fields.specs.Footer.{footer_at, string_slots, string_entry}
use Rattle.scp_tracks.specs.Tracks.{header_size, revolution_at, count_at, flux_at}
use Rattle.scp_sharing.specs.Extents.{extent, between, meets, any_of, joined}
use Rattle.scp_sharing.specs.declared.Extent.{Extent}
use Rattle.scp_sharing.specs.declared.Stand.{Stand}

-- W-2: the flux bytes of revolution k of the track data header at e.
abbrev pub flux_extent : List ℕ → ℕ → ℕ → Extent
flux_extent b e k = extent (flux_at b e k) (2 * count_at b e k)

-- W-2: a rewrite stands on the revolution's 8 bytes of duration and count, and on all its present flux bytes.
abbrev pub stand_at : List ℕ → ℕ → ℕ → Stand
stand_at b e k = record { numbers = extent (revolution_at e k) 8; flux = flux_extent b e k }

-- W-4: the extent x has a byte that the rewrite stands on.
unfoldable pub hit : Stand → Extent → Bool
hit s x = meets s.numbers x || meets s.flux x

-- ---- claimed by others, where the rewrite is of revolution k of track t

-- W-3: its own track data header, at e, outside the 8 bytes: before them and behind them.
abbrev pub own_header : List ℕ → ℕ → ℕ → List Extent
own_header b e k = between e (revolution_at e k) ∷ between (revolution_at e k + 8) (e + header_size b) ∷ []

-- W-3: the track data header of track u, at e: its own outside the 8 bytes, every other whole.
unfoldable pub header_claims : List ℕ → ℕ → ℕ → ℕ → ℕ → List Extent
header_claims b t k u e = cond (eqb u t) (own_header b e k) (extent e (header_size b) ∷ [])

-- W-3: the flux of revolution j of track u, whose header is at e; nothing where it is the rewrite's own.
unfoldable pub flux_claim : List ℕ → ℕ → ℕ → ℕ → ℕ → ℕ → List Extent
flux_claim b t k u e j = cond (eqb u t && eqb j k) [] (flux_extent b e j ∷ [])

-- W-3: the flux of all its revolutions.
abbrev pub flux_claims : List ℕ → ℕ → ℕ → ℕ → ℕ → List Extent
flux_claims b t k u e = joined (flux_claim b t k u e) 0 (revolutions b)

-- W-3: track u, whose entry is e: nothing where it is 0.
unfoldable pub track_claim : List ℕ → ℕ → ℕ → ℕ → ℕ → List Extent
track_claim b t k u e = cond (eqb e 0) [] (header_claims b t k u e ++ flux_claims b t k u e)

-- W-3: track u, by its entry of the table.
abbrev pub track_claim_at : List ℕ → ℕ → ℕ → ℕ → List Extent
track_claim_at b t k u = track_claim b t k u (track_entry b u)

-- W-3: all tracks of the edition's table.
abbrev pub track_claims : Edition → List ℕ → ℕ → ℕ → List Extent
track_claims v b t k = joined (track_claim_at b t k) 0 (slots v)

-- W-3: the string at offset o, with its length and its zero byte.
abbrev pub string_extent : List ℕ → ℕ → Extent
string_extent b o = extent o (3 + le16_at b o)

-- W-3: the string at offset o; nothing where it is 0.
unfoldable pub string_claim : List ℕ → ℕ → List Extent
string_claim b o = cond (eqb o 0) [] (string_extent b o ∷ [])

-- W-3: string j, by its offset in the footer.
abbrev pub string_claim_at : List ℕ → ℕ → List Extent
string_claim_at b j = string_claim b (string_entry b j)

-- W-3: all strings.
abbrev pub string_claims : List ℕ → List Extent
string_claims b = joined (string_claim_at b) 0 string_slots

-- W-3: the footer and its strings.
unfoldable pub footer_claims : Edition → List ℕ → List Extent
footer_claims v b = cond (has_footer v b) (extent (footer_at b) footer_size ∷ string_claims b) []

-- W-3: the first 680 or 688 bytes, header and table, and all of the above.
unfoldable pub claims : Edition → List ℕ → ℕ → ℕ → List Extent
claims v b t k = extent 0 (table_end v) ∷ (track_claims v b t k ++ footer_claims v b)

-- W-5, R-18: a byte that the rewrite stands on is claimed by others, or its 8 bytes and its flux have one in common.
unfoldable pub shared : Edition → List ℕ → Stand → ℕ → ℕ → Bool
shared v b s t k = meets s.numbers s.flux || any_of (hit s) (claims v b t k)
