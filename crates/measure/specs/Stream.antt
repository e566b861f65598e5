-- Page 01, "The measured stream": by pages, and by blocks of 128 bytes of what a plan and an image hold.
-- Assumes nothing.
use Rattle.std.specs.Prelude.{ℕ, zero, suc, ◌+◌, ◌*◌, Bool, List, [], ◌∷◌, ◌++◌, length, take, drop, replicate, ◌==◌, slice_index_or}
use Rattle.wire.specs.Number.{le}
use Rattle.verdict.specs.Turns.{in_turn}
use Rattle.verdict.specs.Rules.{pick}
use Rattle.sha384.specs.declared.State.{State}
use Rattle.sha384.specs.Constants.{H⁰}
use Rattle.sha384.specs.Hash.{compressed, finished}
use Rattle.plan.specs.declared.Page.{Page}
use Rattle.plan.specs.Plan.{page_at}
use Rattle.plan.specs.View.{held}

-- ---- blocks

-- ASCII "MEM.PAGE.ADD" and "MR.EXTEND"
unfoldable pub add_tag : List ℕ
add_tag = 0x4D ∷ 0x45 ∷ 0x4D ∷ 0x2E ∷ 0x50 ∷ 0x41 ∷ 0x47 ∷ 0x45 ∷ 0x2E ∷ 0x41 ∷ 0x44 ∷ 0x44 ∷ []

unfoldable pub extend_tag : List ℕ
extend_tag = 0x4D ∷ 0x52 ∷ 0x2E ∷ 0x45 ∷ 0x58 ∷ 0x54 ∷ 0x45 ∷ 0x4E ∷ 0x44 ∷ []

-- "a 128-byte block with ASCII .. at 0, the address at 16 to 23, zeros elsewhere"
unfoldable pub head_block : List ℕ → ℕ → List ℕ
head_block tag address = take 16 (tag ++ replicate 16 0) ++ (le 8 address ++ replicate 104 0)

-- "a 128-byte block with "MR.EXTEND" at 0 and the address of the 256-byte chunk .., then the chunk's 256 bytes": chunk j of a
-- page at `address` that holds `bytes`, as three blocks
unfoldable pub chunk_blocks : ℕ → List ℕ → ℕ → List (List ℕ)
chunk_blocks address bytes j =
    head_block extend_tag (address + 256 * j) ∷
    take 128 (drop (256 * j) bytes) ∷
    take 128 (drop (256 * j + 128) bytes) ∷ []

-- "If the page is measured, sixteen times, ascending"
unfoldable pub extend_blocks : ℕ → List ℕ → List (List ℕ)
extend_blocks address bytes = in_turn (chunk_blocks address bytes) 16

-- only the byte 1 measures
abbrev pub is_measured : Page → Bool
is_measured p = p.measured == 1

-- the blocks of a page that holds `bytes`
unfoldable pub page_blocks : Page → List ℕ → List (List ℕ)
page_blocks p bytes = head_block add_tag p.address ∷ pick (is_measured p) (extend_blocks p.address bytes) []

-- ---- the stream of a list of pages, with the image and the HOB list that they are cut from

unfoldable pub blocks_of : List ℕ → List ℕ → List Page → List (List ℕ)
blocks_of image handoff [] = []
blocks_of image handoff (p ∷ ps) = page_blocks p (held image handoff p) ++ blocks_of image handoff ps

unfoldable pub joined : List (List ℕ) → List ℕ
joined [] = []
joined (b ∷ bs) = b ++ joined bs

-- "For each page in plan order"
unfoldable pub stream : List ℕ → List ℕ → List Page → List ℕ
stream image handoff ps = joined (blocks_of image handoff ps)

-- "With P pages and M measured, the stream has P + 48 × M blocks of 128 bytes; that is the reported number"
unfoldable pub measured_pages : List Page → ℕ
measured_pages [] = 0
measured_pages (p ∷ ps) = pick (is_measured p) 1 0 + measured_pages ps

unfoldable pub block_count : List Page → ℕ
block_count ps = length ps + 48 * measured_pages ps

-- ---- the stream of a lent plan and image, block by block

-- the blocks of the first r records of a plan's bytes. No HOB list is lent: a TD HOB page reads as a zero page
unfoldable pub plan_blocks : List ℕ → List ℕ → ℕ → List (List ℕ)
plan_blocks image plan r = in_turn (λ i. page_blocks (page_at plan i) (held image [] (page_at plan i))) r

-- block n, counted from 0: n + 1 records have it, since each has a block at least, and past the plan's end they go on
unfoldable pub block_at : List ℕ → List ℕ → ℕ → List ℕ
block_at image plan n = slice_index_or (plan_blocks image plan (n + 1)) n []

-- how many blocks record i of a plan gives: its own, and 48 more where it is measured
unfoldable pub count_of : List ℕ → ℕ → ℕ
count_of plan i = pick (is_measured (page_at plan i)) 49 1

-- how many blocks the first r records give
unfoldable pub before : List ℕ → ℕ → ℕ
before plan zero = 0
before plan (suc r) = before plan r + count_of plan r

-- ---- the digest by blocks

-- the hash value after q blocks, from block n on
unfoldable pub folded : (ℕ → List ℕ) → State → ℕ → ℕ → State
folded block s n zero = s
folded block s n (suc q) = compressed (folded block s n q) (block (n + q))

-- SHA-384 of the first q blocks of what is lent: they are whole, so that FIPS 180-4's padding is one further block
unfoldable pub digest_of : List ℕ → List ℕ → ℕ → List ℕ
digest_of image plan q = finished (folded (block_at image plan) H⁰ 0 q) [] (128 * q)
