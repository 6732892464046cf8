-- What a text answers, as it passes to C (include/scp.h).
use Rattle.std.specs.Prelude.{ℕ, List, [], ◌∷◌}
use Rattle.boundary.specs.Boundary.{Given, gives}
use Rattle.utf8.specs.Table.{valid_up_to}

-- C-26: how many bytes come before the place where the text stops being well-formed, as one number.
abbrev pub text_numbers : List ℕ → Given ℕ
text_numbers s = gives (valid_up_to s ∷ [])
