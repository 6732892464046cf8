-- What an image must obey to be opened by an edition (RO-5), as a list of plain statements, and the claim that refusals 1 to 11 and 19 refuse
-- exactly what breaks it.
use Rattle.std.specs.Prelude.{ℕ, ◌+◌, ◌*◌, ◌<◌, ◌≤◌, ◌≡◌, ◌↔◌, ◌≢◌, ◌⊎◌, List, true, length}
use Rattle.octets.specs.Numbers.{byte_at, le16_at}
use Rattle.refusals.specs.Refusals.{none}
use Rattle.scp_fields.specs.declared.Edition.{Edition}
use Rattle.scp_fields.specs.Editions.{slots, table_end}
use Rattle.scp_fields.specs.Header.{size_limit, revolutions, start_track, end_track, read_write, has_footer, width, heads, track_entry, data_end}
use Rattle.scp_fields.specs.Footer.{footer_at, footer_least, string_slots, string_entry}
use Rattle.utf8_theorems.specs.Encoding.{Text}
use Rattle.scp_footer.specs.Footer.{string_bytes}
use Rattle.scp_tracks.specs.Tracks.{head_of, header_size, count_at, flux_at}
use Rattle.scp_open.specs.Opening.{open_fault}

-- RO-5, L-18, L-23, L-24: a string at offset o is well placed and well formed, and its bytes are text in UTF-8.
pub record StringHolds (v : Edition) (b : List ℕ) (o : ℕ) : Type 0 where
  pub above : table_end v ≤ o
  pub below : o + 3 + le16_at b o ≤ data_end v b
  pub nonzero : (i : ℕ) → i < le16_at b o → byte_at b (o + 2 + i) ≢ 0
  pub ending : byte_at b (o + 2 + le16_at b o) ≡ 0
  pub text : Text (string_bytes b o)

-- RO-5, L-21: the footer is there whole, with "FPCS", version 0x16 or later, and every present string holds.
pub record FooterHolds (v : Edition) (b : List ℕ) : Type 0 where
  pub room : footer_least v ≤ length b
  pub sign :
      (byte_at b (footer_at b + 0x2C) ≡ 0x46) × (byte_at b (footer_at b + 0x2D) ≡ 0x50) × (byte_at b (footer_at b + 0x2E) ≡ 0x43)
      × (byte_at b (footer_at b + 0x2F) ≡ 0x53)
  pub version : 0x16 ≤ byte_at b (footer_at b + 0x2B)
  pub strings : (j : ℕ) → j < string_slots → string_entry b j ≢ 0 → StringHolds v b (string_entry b j)

-- RO-5, L-18: track t with entry e lies from start to end on a side that is held, has its track data header in place with "TRK" and its
-- number, and the flux of each revolution ends at or below E.
pub record TrackHolds (v : Edition) (b : List ℕ) (e t : ℕ) : Type 0 where
  pub from : start_track b ≤ t
  pub to : t ≤ end_track b
  pub even : heads b ≡ 1 → head_of t ≡ 0
  pub odd : heads b ≡ 2 → head_of t ≡ 1
  pub above : table_end v ≤ e
  pub below : e + header_size b ≤ data_end v b
  pub sign : (byte_at b e ≡ 0x54) × (byte_at b (e + 1) ≡ 0x52) × (byte_at b (e + 2) ≡ 0x4B)
  pub number : byte_at b (e + 3) ≡ t
  pub flux : (k : ℕ) → k < revolutions b → flux_at b e k + 2 * count_at b e k ≤ data_end v b

-- RO-5, L-19, L-20: the image obeys all that opening asks; tracks, flux and strings may overlap, in any order, with other bytes between.
-- L-3: of bytes, R is at most 255, so that at least 1 is 1 to 255.
pub record Opens (v : Edition) (b : List ℕ) : Type 0 where
  pub least : table_end v ≤ length b
  pub most : length b ≤ size_limit
  pub sign : (byte_at b 0 ≡ 0x53) × (byte_at b 1 ≡ 0x43) × (byte_at b 2 ≡ 0x50)
  pub word_width : (width b ≡ 0) ⊎ (width b ≡ 16)
  pub revolutions_least : 1 ≤ revolutions b
  pub read_write_one : read_write b ≡ true → revolutions b ≡ 1
  pub span : start_track b ≤ end_track b
  pub span_end : end_track b < slots v
  pub sides : heads b ≤ 2
  pub footer : has_footer v b ≡ true → FooterHolds v b
  pub tracks : (t : ℕ) → t < slots v → track_entry b t ≢ 0 → TrackHolds v b (track_entry b t) t

-- RO-5: by any edition, opening refuses exactly what does not obey.
abbrev pub OpensExactly : Type 0
OpensExactly = (v : Edition) (b : List ℕ) → (open_fault v b ≡ none) ↔ Opens v b
