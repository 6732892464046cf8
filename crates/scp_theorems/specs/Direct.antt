-- What the direct calls are proved to have in common with the full ones, and where they look, by any edition. The proofs stand in proofs/.
use Rattle.std.specs.Prelude.{ℕ, ◌+◌, ◌*◌, ◌<◌, ◌≤◌, ◌≡◌, ◌≢◌, ◌⊎◌, List, [], ◌∷◌, length}
use Rattle.octets.specs.Numbers.{byte_at}
use Rattle.refusals.specs.Refusals.{none}
use Rattle.scp_fields.specs.declared.Edition.{Edition}
use Rattle.scp_fields.specs.Editions.{table_at, slots}
use Rattle.scp_fields.specs.Header.{track_entry}
use Rattle.scp_tracks.specs.Tracks.{header_size}
use Rattle.scp_open.specs.Opening.{open_fault}
use Rattle.scp.specs.Answers.{Answer, refused, numbers, track_answer, revolution_answer, flux_answer, flux_part, flux_start}
use Rattle.scp_direct.specs.Direct.{direct_revolution_question, direct_track, direct_revolution, direct_flux, direct_part, direct_start}
use Rattle.scp_theorems.specs.Theorems.{NotFooter}

-- ---- beside the full calls

-- DI-6: each direct call answers what the full one answers, and hands out the same part of the image.
pub record SameAnswers (v : Edition) (b : List ℕ) : Type 0 where
  pub track : (t : ℕ) → direct_track v b t ≡ track_answer v b t
  pub revolution : (t k : ℕ) → direct_revolution v b t k ≡ revolution_answer v b t k
  pub flux : (t k : ℕ) → direct_flux v b t k ≡ flux_answer v b t k
  pub part : (t k : ℕ) → direct_part v b t k ≡ flux_part v b t k
  pub start : (t k : ℕ) → direct_start v b t k ≡ flux_start v b t k

-- DI-6: so it is where the whole image passes 1 to 11 and 19.
abbrev pub Agrees : Type 0
Agrees = (v : Edition) (b : List ℕ) → open_fault v b ≡ none → SameAnswers v b

-- DI-7, RO-3, RO-4: a number that opening refuses with: one of 1 to 11, or 19.
abbrev pub OfOpening : ℕ → Type 0
OfOpening n = ((1 ≤ n) × (n ≤ 11)) ⊎ (n ≡ 19)

-- DI-7: the image does not open, and the full call answers with what refuses it, perhaps another number.
pub record RefusedToo (v : Edition) (b : List ℕ) (full : Answer) : Type 0 where
  pub opening : open_fault v b ≢ none
  pub number : OfOpening (open_fault v b).number
  pub answer : full ≡ refused (open_fault v b).number (open_fault v b).position

-- DI-7: so it is where a direct call refuses with number n at position p.
pub record Sound (v : Edition) (b : List ℕ) (n p : ℕ) : Type 0 where
  pub track : (t : ℕ) → direct_track v b t ≡ refused n p → RefusedToo v b (track_answer v b t)
  pub revolution : (t k : ℕ) → direct_revolution v b t k ≡ refused n p → RefusedToo v b (revolution_answer v b t k)
  pub flux : (t k : ℕ) → direct_flux v b t k ≡ refused n p → RefusedToo v b (flux_answer v b t k)

-- DI-7: and the number is one of 1 to 11 and 19.
abbrev pub RefusesSoundly : Type 0
RefusesSoundly = (v : Edition) (b : List ℕ) (n p : ℕ) → OfOpening n → Sound v b n p

-- DI-7: where a direct call refuses with number n, that is not 7, 8 or 19: the footer and its strings are not tested.
pub record NotOfFooter (v : Edition) (b : List ℕ) (n p : ℕ) : Type 0 where
  pub track : (t : ℕ) → direct_track v b t ≡ refused n p → NotFooter n
  pub revolution : (t k : ℕ) → direct_revolution v b t k ≡ refused n p → NotFooter n
  pub flux : (t k : ℕ) → direct_flux v b t k ≡ refused n p → NotFooter n

-- DI-7: so it is of every image by any edition.
abbrev pub DirectNeverFooter : Type 0
DirectNeverFooter = (v : Edition) (b : List ℕ) (n p : ℕ) → NotOfFooter v b n p

-- ---- their flux

-- DI-5, T-8: the flux handed out is the words that the revolution counts, also on an image that does not open.
abbrev pub DirectFluxIsCounted : Type 0
DirectFluxIsCounted =
    (v : Edition) (b : List ℕ) (t k duration words offset : ℕ) → direct_revolution v b t k ≡ numbers (duration ∷ words ∷ offset ∷ [])
    → length (direct_part v b t k) ≡ 2 * words

-- ---- where they look

-- DI-8: the n bytes from i on are the same in both.
abbrev pub SameBytes : List ℕ → List ℕ → ℕ → ℕ → Type 0
SameBytes b c i n = (j : ℕ) → i ≤ j → j < i + n → byte_at b j ≡ byte_at c j

-- DI-8: two images are the same where a direct call on track t looks: in length and header; if the table has the track, in its entry; and if
-- that is not 0, in its track data header, with the records of its revolutions.
pub record SameTrack (v : Edition) (t : ℕ) (b c : List ℕ) : Type 0 where
  pub size : length b ≡ length c
  pub header : SameBytes b c 0 table_at
  pub entry : t < slots v → SameBytes b c (table_at + 4 * t) 4
  pub track : t < slots v → track_entry b t ≢ 0 → SameBytes b c (track_entry b t) (header_size b)

-- DI-8: the same is answered of both, or refuses both; the flux starts at the same offset and is as long, and where its bytes are the same it is
-- answered the same.
pub record SameLook (v : Edition) (t : ℕ) (b c : List ℕ) : Type 0 where
  pub track : direct_track v b t ≡ direct_track v c t
  pub revolution : (k : ℕ) → direct_revolution v b t k ≡ direct_revolution v c t k
  pub refuses : (k : ℕ) → direct_revolution_question v b t k ≡ direct_revolution_question v c t k
  pub start : (k : ℕ) → direct_start v b t k ≡ direct_start v c t k
  pub size : (k : ℕ) → length (direct_part v b t k) ≡ length (direct_part v c t k)
  pub flux : (k : ℕ) → SameBytes b c (direct_start v b t k) (length (direct_part v b t k)) → direct_flux v b t k ≡ direct_flux v c t k

-- DI-8: so it is of images that are the same there, whatever their other bytes.
abbrev pub LooksOnly : Type 0
LooksOnly = (v : Edition) (t : ℕ) (b c : List ℕ) → SameTrack v t b c → SameLook v t b c
