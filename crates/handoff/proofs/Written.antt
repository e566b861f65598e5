-- What the writer of the list makes of its writes, each right behind the one before: a block, the blocks of pieces one by
-- one, and the list. Assumes nothing.
use mathlib.Core.Path.{◌≡◌, refl, sym, ap, ◌∙◌}
use mathlib.Core.List.{List, [], ◌∷◌, ◌++◌, append_assoc, append-nil}
use Prim.Native.Nat.{ℕ, ◌+◌, ◌*◌, ◌≤◌}
use native.Mathlib.Omega.{arith}
use lib.ListN.{length, length-append, replicate}
use lib.Seq.{sets}
use Rattle.wire.specs.Number.{le}
use Rattle.wire.proofs.Digits.{length-le}
use Rattle.wire.proofs.Sets.{sets_then}
use Rattle.handoff.specs.declared.Piece.{Piece}
use Rattle.handoff.specs.Pieces.{resource_type, resource_attributes}
use Rattle.handoff.specs.List.{block_head, first_block, piece_block, last_block, piece_blocks, list_length, list_bytes}
use Rattle.handoff.proofs.Size.{first-length, blocks-length}

-- ---- the fields of a block

pub head-parts : (sort size : ℕ) → (le 2 sort ++ le 2 size) ++ le 4 0 ≡ block_head sort size
head-parts sort size = append_assoc (le 2 sort) (le 2 size) (le 4 0)

pub head-length : (sort size : ℕ) → length (block_head sort size) ≡ 8
head-length sort size = simp (length-append, length-le)

-- a boot mode of 4 bytes of zero, and four zeros of 8, are 36 bytes of zero
zeros-36 : le 4 0 ++ (le 8 0 ++ (le 8 0 ++ (le 8 0 ++ le 8 0))) ≡ replicate 36 0
unfolding le
zeros-36 = refl

pub first-parts : (past : ℕ) → ((block_head 1 56 ++ le 4 9) ++ replicate 36 0) ++ le 8 past ≡ first_block past
unfolding first_block
first-parts past = rw (← zeros-36) (simp append_assoc)

pub piece-parts : (sort attributes : ℕ) (p : Piece) → sort ≡ resource_type p.resource → attributes ≡ resource_attributes p.resource
    → ((((block_head 3 48 ++ replicate 16 0) ++ le 4 sort) ++ le 4 attributes) ++ le 8 p.start) ++ le 8 p.length ≡ piece_block p
unfolding piece_block
piece-parts sort attributes p s a = rw (s, a) (simp append_assoc)

-- ---- the blocks of some pieces

-- no pieces, no bytes
pub blocks-none : (b : List ℕ) (at : ℕ) → b ≡ sets b at (piece_blocks [])
unfolding piece_blocks
blocks-none b at = refl

blocks-append : (ps qs : List Piece) → piece_blocks (ps ++ qs) ≡ piece_blocks ps ++ piece_blocks qs
unfolding piece_blocks
blocks-append [] qs = refl
blocks-append (p ∷ ps) qs =
    ap (λ (r : List ℕ). piece_block p ++ r) (blocks-append ps qs) ∙ sym (append_assoc (piece_block p) (piece_blocks ps) (piece_blocks qs))

-- one piece
blocks-one : (p : Piece) → piece_blocks (p ∷ []) ≡ piece_block p
unfolding piece_blocks
blocks-one p = append-nil (piece_block p)

-- a turn writes the block of one piece more
pub pieces-turn : (l b b' : List ℕ) (next : ℕ) (ps : List Piece) (p : Piece) → next ≡ 48 * length ps
    → b ≡ sets l 0 (piece_blocks ps) → b' ≡ sets b next (piece_block p) → b' ≡ sets l 0 (piece_blocks (ps ++ (p ∷ [])))
pieces-turn l b b' next ps p n e is =
    is
    ∙ ap (λ (r : List ℕ). sets r next (piece_block p)) e
    ∙ sets_then l (piece_blocks ps) (piece_block p) 0 next (omega (arith, blocks-length ps, n))
    ∙ ap (sets l 0) (ap (λ (r : List ℕ). piece_blocks ps ++ r) (sym (blocks-one p)) ∙ sym (blocks-append ps (p ∷ [])))

-- of the same pieces
module _ (ps qs : List Piece) where
  pub size-of : (n : ℕ) → qs ≡ ps → n ≡ 48 * length qs → n ≡ 48 * length ps
  size-of n e is = is ∙ ap (λ (r : List Piece). 48 * length r) e

  pub blocks-of : (l b : List ℕ) → qs ≡ ps → b ≡ sets l 0 (piece_blocks qs) → b ≡ sets l 0 (piece_blocks ps)
  blocks-of l b e is = is ∙ ap (λ (r : List Piece). sets l 0 (piece_blocks r)) e

-- ---- the list

module _ (ps : List Piece) (total : ℕ) (e : total ≡ list_length ps) where
  pub list-room : 56 + 48 * length ps + 8 ≡ total
  unfolding list_length
  list-room = omega (arith, e)

  -- no more pieces than the list's, and where their blocks end
  module _ (qs : List Piece) (h : length qs ≤ length ps) where
    pub blocks-fit : (room : ℕ) → total ≤ room + 64 → 48 * length qs ≤ room
    blocks-fit room r = omega (arith, h, r, list-room)

    pub blocks-end : (n : ℕ) → n ≡ 48 * length qs → 56 + n + 8 ≤ total
    blocks-end n is = omega (arith, h, is, list-room)

  pub list-is : (l b₁ b₂ b₃ : List ℕ) (address next : ℕ)
      → b₁ ≡ sets l 0 (first_block (address + total)) → b₂ ≡ sets b₁ 56 (piece_blocks ps) → next ≡ 56 + 48 * length ps → b₃ ≡ sets b₂ next last_block
      → b₃ ≡ sets l 0 (list_bytes address ps)
  unfolding list_bytes
  list-is l b₁ b₂ b₃ address next e₁ e₂ n e₃ =
      let first : List ℕ = first_block (address + list_length ps) in
      let blocks : List ℕ = piece_blocks ps in
      let begun : b₁ ≡ sets l 0 first = e₁ ∙ ap (λ (k : ℕ). sets l 0 (first_block (address + k))) e in
      let longer : b₂ ≡ sets l 0 (first ++ blocks) =
      e₂ ∙ ap (λ (r : List ℕ). sets r 56 blocks) begun ∙ sets_then l first blocks 0 56 (omega (arith, first-length (address + list_length ps))) in
      e₃
      ∙ ap (λ (r : List ℕ). sets r next last_block) longer
      ∙ sets_then l (first ++ blocks) last_block 0 next (omega (arith, length-append first blocks, first-length (address + list_length ps), blocks-length ps, n))
      ∙ ap (sets l 0) (append_assoc first blocks last_block)
