-- Little-endian numbers in lists of bytes: the bytes of a number, and the number that bytes hold.
-- Assumes nothing.
use Rattle.std.specs.Prelude.{ℕ, zero, suc, ◌+◌, ◌*◌, ◌/◌, ◌%◌, ◌<◌, List, [], ◌∷◌, get_or}

-- every element is a byte: below 256. Past the end `get_or` answers 0, which is one
abbrev pub Bytes : List ℕ → Type 0
Bytes s = (i : ℕ) → get_or s i 0 < 256

-- the n bytes of v, little-endian: the lowest first, and what n bytes do not hold is left out
unfoldable pub le : ℕ → ℕ → List ℕ
le zero v = []
le (suc n) v = v % 256 ∷ le n (v / 256)

-- the number that the n bytes of s from index `at` on hold, little-endian; a byte past the end counts as 0
unfoldable pub number_at : ℕ → List ℕ → ℕ → ℕ
number_at zero s at = 0
number_at (suc n) s at = get_or s at 0 + 256 * number_at n s (suc at)
