-- What holds of the number of each refusal that opening, or a direct call, can find, and of 0, holds of the number that it finds.
use Prim.Native.Nat.{ℕ}
use mathlib.Core.List.{List}
use Rattle.refusals.specs.Refusals.{Fault}
use Rattle.refusals.proofs.Finding.{holds_if, holds_first, holds_from}
use Rattle.scp_fields.specs.declared.Edition.{Edition}
use Rattle.scp_fields.specs.Editions.{slots}
use Rattle.scp_fields.specs.Footer.{string_slots}
use Rattle.scp_footer.specs.Footer.{string_fault_at, string_fault, footer_fault}
use Rattle.scp_header.specs.HeaderFault.{header_fault}
use Rattle.scp_tracks.specs.Tracks.{track_fault_at, track_fault, tracks_fault}
use Rattle.scp_open.specs.Opening.{open_fault}
use Rattle.scp_lookup.specs.Questions.{track_then, revolution_then}

module _ (P : ℕ → Type 0) where
  -- of a refusal
  abbrev pub Numbered : Fault → Type 0
  Numbered f = P f.number

  module _ (v : Edition) (b : List ℕ) where
    -- the header: 1 to 6
    pub header_number : P 0 → P 1 → P 2 → P 3 → P 4 → P 5 → P 6 → Numbered (header_fault v b)
    unfolding header_fault
    header_number z p1 p2 p3 p4 p5 p6 =
        holds_if Numbered _ _ _ p1
        (holds_if Numbered _ _ _ p2
        (holds_if Numbered _ _ _ p3
        (holds_if Numbered _ _ _ p4
        (holds_if Numbered _ _ _ p5
        (holds_if Numbered _ _ _ p6
        z)))))

    -- the footer: 7, and of its strings 8 and 19
    pub footer_number : P 0 → P 7 → P 8 → P 19 → Numbered (footer_fault v b)
    unfolding footer_fault string_fault_at
    footer_number z p7 p8 p19 =
        holds_if Numbered _ _ _ p7
        (holds_if Numbered _ _ _ z
        (holds_from Numbered z (string_fault v b) 0 string_slots
        (λ j a c. holds_if Numbered _ _ _ z (holds_if Numbered _ _ _ p8 (holds_if Numbered _ _ _ p19 z)))))

    -- a track: 9 to 11
    pub track_number_lem : P 0 → P 9 → P 10 → P 11 → (t : ℕ) → Numbered (track_fault v b t)
    unfolding track_fault_at
    track_number_lem z p9 p10 p11 t =
        holds_if Numbered _ _ _ z
        (holds_if Numbered _ _ _ p9 (holds_if Numbered _ _ _ p10 (holds_if Numbered _ _ _ p11 z)))

    tracks_number : P 0 → P 9 → P 10 → P 11 → Numbered (tracks_fault v b)
    tracks_number z p9 p10 p11 =
        holds_from Numbered z (track_fault v b) 0 (slots v) (λ t a c. track_number_lem z p9 p10 p11 t)

    pub open_number : P 0 → P 1 → P 2 → P 3 → P 4 → P 5 → P 6 → Numbered (footer_fault v b) → P 9 → P 10 → P 11 → Numbered (open_fault v b)
    unfolding open_fault
    open_number z p1 p2 p3 p4 p5 p6 foot p9 p10 p11 =
        holds_first Numbered (header_fault v b) _ (header_number z p1 p2 p3 p4 p5 p6)
        (holds_first Numbered (footer_fault v b) (tracks_fault v b) foot (tracks_number z p9 p10 p11))

    -- a call on a track: 13 besides, and what comes after
    pub track_asked : Numbered (open_fault v b) → P 13 → (t : ℕ) (rest : Fault) → Numbered rest → Numbered (track_then v b t rest)
    unfolding track_then
    track_asked first p13 t rest h =
        holds_first Numbered (open_fault v b) _ first (holds_if Numbered _ _ _ p13 (holds_if Numbered _ _ _ p13 h))

    -- a call on a revolution: 14, too
    pub asked_number : Numbered (open_fault v b) → P 13 → P 14 → (t k : ℕ) (rest : Fault) → Numbered rest → Numbered (revolution_then v b t k rest)
    asked_number first p13 p14 t k rest h = track_asked first p13 t _ (holds_if Numbered _ _ _ p14 h)
