-- Page 01, "The HOB list": the blocks, and the list. Assumes nothing.
use Rattle.std.specs.Prelude.{List, [], ◌∷◌, ◌++◌, ℕ, ◌+◌, ◌*◌, length, replicate}
use Rattle.wire.specs.Number.{le}
use Rattle.handoff.specs.declared.Piece.{Piece}
use Rattle.handoff.specs.Pieces.{resource_type, resource_attributes}

-- "Each block starts with type (2), length (2), zero (4)"
abbrev pub block_head : ℕ → ℕ → List ℕ
block_head type size = le 2 type ++ (le 2 size ++ le 4 0)

-- "First: type 1, length 56: version 9 (4), boot mode 0 (4), four 8-byte zeros, then the address just past the list"
unfoldable pub first_block : ℕ → List ℕ
first_block past = block_head 1 56 ++ (le 4 9 ++ (le 4 0 ++ (le 8 0 ++ (le 8 0 ++ (le 8 0 ++ (le 8 0 ++ le 8 past))))))

-- "Then type 3, length 48, for each piece: owner of 16 zero bytes, resource type (4), attributes (4), start (8), length (8)"
unfoldable pub piece_block : Piece → List ℕ
piece_block p =
    block_head 3 48
    ++ (replicate 16 0 ++ (le 4 (resource_type p.resource) ++ (le 4 (resource_attributes p.resource) ++ (le 8 p.start ++ le 8 p.length))))

-- "Last: type 0xFFFF, length 8"
unfoldable pub last_block : List ℕ
last_block = block_head 0xFFFF 8

unfoldable pub piece_blocks : List Piece → List ℕ
piece_blocks [] = []
piece_blocks (p ∷ ps) = piece_block p ++ piece_blocks ps

-- the list's length: 56, 48 for each piece, and 8
unfoldable pub list_length : List Piece → ℕ
list_length ps = 56 + (48 * length ps + 8)

-- the list, where the TD HOB section is at `address`: "the address just past the list, that is the TD HOB section's address
-- plus the list's length"
unfoldable pub list_bytes : ℕ → List Piece → List ℕ
list_bytes address ps = first_block (address + list_length ps) ++ (piece_blocks ps ++ last_block)
