-- The values of an answer as numbers, from the structures that the calls return; a header's are `header_numbers` (Answers).
use Rattle.std.specs.Prelude.{ℕ, List, [], ◌∷◌}
use Rattle.octets.specs.Numbers.{unsigned64}
use Rattle.scp_tracks.specs.declared.RevolutionData.{RevolutionData}
use Rattle.scp.specs.declared.FooterData.{FooterData}
use Rattle.scp_lookup.specs.declared.TrackData.{TrackData}

-- T-4, S-17: of a footer: 1, six offsets, two times as two's complement, four version bytes.
abbrev pub footer_numbers : FooterData → List ℕ
footer_numbers f =
    1 ∷ f.maker ∷ f.model ∷ f.serial ∷ f.creator ∷ f.application ∷ f.comments ∷ unsigned64 f.created ∷ unsigned64 f.modified
    ∷ f.software ∷ f.hardware ∷ f.firmware ∷ f.format ∷ []

-- T-5: of a track: cylinder, head, file offset of its header, revolutions.
abbrev pub track_numbers : TrackData → List ℕ
track_numbers d = d.cylinder ∷ d.head ∷ d.offset.0 ∷ d.revolutions ∷ []

-- T-6: of a revolution: duration, count of words, file offset of its flux.
abbrev pub revolution_numbers : RevolutionData → List ℕ
revolution_numbers d = d.duration ∷ d.words ∷ d.offset.0 ∷ []
