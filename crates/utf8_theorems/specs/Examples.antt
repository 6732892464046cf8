-- Examples of the Unicode Standard, section 3.9, and of the request.
use Rattle.std.specs.Prelude.{◌≡◌, [], ◌∷◌, true, false}
use Rattle.utf8.specs.Table.{valid_up_to, well_formed}
use Rattle.utf8_theorems.specs.Encoding.{encode_all}

-- UT-1, UT-2, UT-3: scalar values of each width encoded, and bytes that are well-formed or are not.
pub record Examples : Type 0 where
  -- <004D, 0430, 4E8C, 10302> is <4D D0 B0 E4 BA 8C F0 90 8C 82> (D92)
  pub encoded : encode_all (0x004D ∷ 0x0430 ∷ 0x4E8C ∷ 0x10302 ∷ []) ≡ 0x4D ∷ 0xD0 ∷ 0xB0 ∷ 0xE4 ∷ 0xBA ∷ 0x8C ∷ 0xF0 ∷ 0x90 ∷ 0x8C ∷ 0x82 ∷ []
  pub widths : well_formed (0x4D ∷ 0xD0 ∷ 0xB0 ∷ 0xE4 ∷ 0xBA ∷ 0x8C ∷ 0xF0 ∷ 0x90 ∷ 0x8C ∷ 0x82 ∷ []) ≡ true
  -- <C0 AF> and <E0 9F 80> are ill-formed, <F4 80 83 92> is well-formed (D92)
  pub overlong : well_formed (0xC0 ∷ 0xAF ∷ []) ≡ false
  pub low_second : well_formed (0xE0 ∷ 0x9F ∷ 0x80 ∷ []) ≡ false
  pub high_first : well_formed (0xF4 ∷ 0x80 ∷ 0x83 ∷ 0x92 ∷ []) ≡ true
  -- "wrote 0x97 for a letter": a text is valid up to that byte
  pub letter : valid_up_to (0x61 ∷ 0x62 ∷ 0x97 ∷ 0x63 ∷ []) ≡ 2
