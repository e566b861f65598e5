-- A part of an image that starts at the descriptor, seen as an image of its own. Assumes nothing.
use Rattle.std.specs.Prelude.{List, ℕ, ◌+◌}
use Rattle.tdvf.specs.Image.{Fields}

-- the descriptor at 0, and `room` bytes from there to the last 32
abbrev pub part_of : ℕ → List ℕ → Fields
part_of room descriptor = record { length = room + 32; offset = 0; descriptor = descriptor }
