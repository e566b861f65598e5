-- The stream is its blocks one after the other: each has 128 bytes, and there are P + 48 × M of them. Assumes nothing.
use Rattle.std.proofs.Common.{◌≡◌, ℕ, zero, suc, ◌+◌, ◌*◌, ◌/◌, ◌<◌, ◌≤◌, Bool, true, false, List, [], ◌∷◌, ◌++◌, length, get_or, take, drop, replicate, refl, ap, ◌∙◌, arith, length-append, length-drop, length-take-le, take_at}
use lib.ListN.{length-replicate}
use lib.Seq.{drop-append-add}
use Rattle.wire.specs.Number.{le}
use Rattle.wire.proofs.Digits.{length-le}
use Rattle.verdict.specs.Rules.{pick}
use Rattle.verdict.specs.Turns.{in_turn}
use Rattle.plan.specs.declared.Page.{Page}
use Rattle.plan.specs.View.{content, held}
use Rattle.measure.specs.Stream.{add_tag, head_block, chunk_blocks, extend_blocks, is_measured, page_blocks, blocks_of, joined, stream, measured_pages, block_count}

-- a list of blocks: each of 128 bytes
abbrev pub Blocks : List (List ℕ) → Type 0
Blocks [] = Unit
Blocks (b ∷ bs) = (length b ≡ 128) × Blocks bs

pub blocks-append : (bs cs : List (List ℕ)) → Blocks bs → Blocks cs → Blocks (bs ++ cs)
blocks-append [] cs h k = k
blocks-append (b ∷ bs) cs h k = (h.0, blocks-append bs cs h.1 k)

pub blocks_at : (bs : List (List ℕ)) → Blocks bs → (i : ℕ) → i < length bs → length (get_or bs i []) ≡ 128
blocks_at [] h i l = absurd (omega arith)
blocks_at (b ∷ bs) h zero l = h.0
blocks_at (b ∷ bs) h (suc i) l = blocks_at bs h.1 i (omega arith)

pub joined_length : (bs : List (List ℕ)) → Blocks bs → length (joined bs) ≡ 128 * length bs
unfolding joined
joined_length [] h = refl
joined_length (b ∷ bs) h = length-append b (joined bs) ∙ omega (arith, h.0, joined_length bs h.1)

-- block i of what they make, one after the other
pub joined-block : (bs : List (List ℕ)) → Blocks bs → (i : ℕ) → i < length bs → take 128 (drop (128 * i) (joined bs)) ≡ get_or bs i []
unfolding joined
joined-block [] h i l = absurd (omega arith)
joined-block (b ∷ bs) h zero l = take_at b (joined bs) 128 h.0
joined-block (b ∷ bs) h (suc i) l =
    let place : 128 * suc i ≡ length b + 128 * i = omega (arith, h.0) in
    ap (λ (k : ℕ). take 128 (drop k (b ++ joined bs))) place
    ∙ ap (take 128) (drop-append-add b (joined bs) (128 * i))
    ∙ joined-block bs h.1 i (omega arith)

-- ---- the blocks of a page

pub head-length : (tag : List ℕ) (address : ℕ) → length (head_block tag address) ≡ 128
unfolding head_block
head-length tag address =
    let front : List ℕ = take 16 (tag ++ replicate 16 0) in
    let long : length front ≡ 16 =
    length-take-le 16 (tag ++ replicate 16 0) (omega (arith, length-append tag (replicate 16 0), length-replicate {A = ℕ} 16 0)) in
    length-append front (le 8 address ++ replicate 104 0)
    ∙ omega (arith, long, length-append (le 8 address) (replicate 104 0), length-le 8 address, length-replicate {A = ℕ} 104 0)

-- a page holds 4,096 bytes, whatever is shown of it
pub content-length : (shown : List ℕ) → length (content shown) ≡ 4096
unfolding content
content-length shown =
    length-take-le 4096 (shown ++ replicate 4096 0) (omega (arith, length-append shown (replicate 4096 0), length-replicate {A = ℕ} 4096 0))

pub held-length : (image handoff : List ℕ) (p : Page) → length (held image handoff p) ≡ 4096
unfolding held
held-length image handoff p = content-length _

module _ (address : ℕ) (bytes : List ℕ) (l : length bytes ≡ 4096) where
  half : (at : ℕ) → at + 128 ≤ 4096 → length (take 128 (drop at bytes)) ≡ 128
  half at h = length-take-le 128 (drop at bytes) (omega (arith, length-drop at bytes))

  -- the first n chunks of a page
  chunks : (n : ℕ) → n ≤ 16 → Blocks (in_turn (chunk_blocks address bytes) n) × (length (in_turn (chunk_blocks address bytes) n) ≡ 3 * n)
  unfolding in_turn chunk_blocks
  chunks zero h = (tt, refl)
  chunks (suc n) h =
      let before = chunks n (omega arith) in (
        blocks-append (in_turn (chunk_blocks address bytes) n) (chunk_blocks address bytes n) before.0
            (head-length _ _, (half (256 * n) (omega arith), (half (256 * n + 128) (omega arith), tt))),
        length-append (in_turn (chunk_blocks address bytes) n) (chunk_blocks address bytes n) ∙ omega (arith, before.1),
      )

pub page-blocks : (p : Page) (bytes : List ℕ) → length bytes ≡ 4096
    → Blocks (page_blocks p bytes) × (length (page_blocks p bytes) ≡ 1 + 48 * pick (is_measured p) 1 0)
unfolding page_blocks extend_blocks
page-blocks p bytes l = by_mark (is_measured p)
  where
    by_mark : (m : Bool)
        → Blocks (head_block add_tag p.address ∷ pick m (in_turn (chunk_blocks p.address bytes) 16) [])
        × (length (head_block add_tag p.address ∷ pick m (in_turn (chunk_blocks p.address bytes) 16) []) ≡ 1 + 48 * pick m 1 0)
    by_mark true = let c = chunks p.address bytes l 16 (omega arith) in ((head-length _ _, c.0), omega (arith, c.1))
    by_mark false = ((head-length _ _, tt), refl)

-- ---- the stream

pub blocks-of : (image handoff : List ℕ) (ps : List Page)
    → Blocks (blocks_of image handoff ps) × (length (blocks_of image handoff ps) ≡ block_count ps)
unfolding blocks_of block_count measured_pages
blocks-of image handoff [] = (tt, refl)
blocks-of image handoff (p ∷ ps) =
    let first = page-blocks p (held image handoff p) (held-length image handoff p) in
    let rest = blocks-of image handoff ps in (
      blocks-append (page_blocks p (held image handoff p)) (blocks_of image handoff ps) first.0 rest.0,
      length-append (page_blocks p (held image handoff p)) (blocks_of image handoff ps) ∙ omega (arith, first.1, rest.1),
    )

-- "the stream has P + 48 × M blocks of 128 bytes"
pub stream-length : (image handoff : List ℕ) (ps : List Page) → length (stream image handoff ps) ≡ 128 * block_count ps
unfolding stream
stream-length image handoff ps =
    let b = blocks-of image handoff ps in
    joined_length (blocks_of image handoff ps) b.0 ∙ ap (λ (n : ℕ). 128 * n) b.1

-- and "that is the reported number": the stream's length over 128
pub stream-blocks : (image handoff : List ℕ) (ps : List Page) → length (stream image handoff ps) / 128 ≡ block_count ps
stream-blocks image handoff ps = omega (arith, stream-length image handoff ps)

-- a page gives 49 blocks at most
pub blocks-most : (ps : List Page) → block_count ps ≤ 49 * length ps
unfolding block_count measured_pages
blocks-most [] = omega arith
blocks-most (p ∷ ps) = let below = blocks-most ps in by_mark (is_measured p) below
  where
    by_mark : (m : Bool) → length ps + 48 * measured_pages ps ≤ 49 * length ps
        → suc (length ps) + 48 * (pick m 1 0 + measured_pages ps) ≤ 49 * suc (length ps)
    by_mark true h = omega arith
    by_mark false h = omega arith

-- the stream, 128 bytes at a time, is its blocks
pub stream-block : (image handoff : List ℕ) (ps : List Page) (n : ℕ) → n < block_count ps
    → take 128 (drop (128 * n) (stream image handoff ps)) ≡ get_or (blocks_of image handoff ps) n []
unfolding stream
stream-block image handoff ps n h =
    let b = blocks-of image handoff ps in
    joined-block (blocks_of image handoff ps) b.0 n (omega (arith, b.1))
