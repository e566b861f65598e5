-- What is said of the pieces of a record of RAM: they cover it in order, without gap or overlap. Assumes nothing.
use Rattle.std.specs.Prelude.{◌≡◌, List, [], ◌∷◌, ℕ, ◌+◌, ◌<◌}
use Rattle.handoff.specs.declared.Piece.{Piece}

-- the first piece starts at `at`, each other where the one before it ends, and the last ends at `top`; none is empty
abbrev pub Chain : ℕ → List Piece → ℕ → Type 0
Chain at [] top = at ≡ top
Chain at (p ∷ ps) top = (p.start ≡ at) × (0 < p.length) × Chain (at + p.length) ps top
