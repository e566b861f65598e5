-- The line in place of an image that is too long, as ASCII codes. Assumes nothing.
use Rattle.std.specs.Prelude.{List, [], ◌∷◌, ℕ}

-- "too long", and a newline
abbrev pub too_long : List ℕ
too_long = 0x74 ∷ 0x6F ∷ 0x6F ∷ 0x20 ∷ 0x6C ∷ 0x6F ∷ 0x6E ∷ 0x67 ∷ 0x0A ∷ []
