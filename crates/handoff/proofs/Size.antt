-- How long each block of the list is, and the list. Assumes nothing.
use mathlib.Core.Path.{◌≡◌, refl, ◌∙◌}
use mathlib.Core.List.{List, [], ◌∷◌}
use Prim.Native.Nat.{ℕ, ◌*◌, ◌≤◌}
use native.Mathlib.Omega.{arith}
use lib.ListN.{length, length-append}
use Rattle.wire.proofs.Digits.{length-le}
use Rattle.handoff.specs.declared.Piece.{Piece}
use Rattle.handoff.specs.List.{first_block, piece_block, last_block, piece_blocks, list_length, list_bytes}

-- "First: type 1, length 56"
pub first-length : (past : ℕ) → length (first_block past) ≡ 56
unfolding first_block
first-length past = simp (length-append, length-le)

-- "Then type 3, length 48, for each piece"
pub piece-length : (p : Piece) → length (piece_block p) ≡ 48
unfolding piece_block
piece-length p = simp (length-append, length-le)

-- "Last: type 0xFFFF, length 8"
pub last-length : length last_block ≡ 8
unfolding last_block
last-length = simp (length-append, length-le)

pub blocks-length : (ps : List Piece) → length (piece_blocks ps) ≡ 48 * length ps
unfolding piece_blocks
blocks-length [] = refl
blocks-length (p ∷ ps) = length-append (piece_block p) (piece_blocks ps) ∙ omega (arith, piece-length p, blocks-length ps)

-- the list's bytes are as many as `list_length` says, wherever the TD HOB section is
pub list-length : (address : ℕ) (ps : List Piece) → length (list_bytes address ps) ≡ list_length ps
unfolding list_length list_bytes
list-length address ps = simp (length-append, first-length, blocks-length, last-length)

-- a list of 128 pieces is 6,208 bytes long, and one of fewer is shorter
pub list-most : (ps : List Piece) → length ps ≤ 128 → list_length ps ≤ 6208
unfolding list_length
list-most ps h = omega arith
