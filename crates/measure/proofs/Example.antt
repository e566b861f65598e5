-- The definitions of the stream computed, at the places where an error looks right. Assumes nothing.
use Rattle.std.proofs.Common.{◌≡◌, ℕ, List, [], ◌∷◌, ◌++◌, length, replicate, refl}
use Rattle.wire.specs.Number.{le, number_at}
use Rattle.verdict.specs.Turns.{in_turn}
use Rattle.plan.specs.declared.Page.{Page}
use Rattle.plan.specs.Plan.{page_bytes, plan_bytes, page_at}
use Rattle.plan.specs.View.{slice_of, part, view, content, held}
use Rattle.measure.specs.Stream.{add_tag, extend_tag, head_block, chunk_blocks, extend_blocks, page_blocks, blocks_of, plan_blocks, block_at}

-- two pages, the first measured with one byte of data, and the second added
pub two : List Page
two =
    record { address = 0x1000; offset = 0; length = 1; sort = 0; measured = 1 } ∷
    record { address = 0x2000; offset = 0; length = 0; sort = 3; measured = 0 } ∷ []

pub image : List ℕ
image = 5 ∷ 9 ∷ []

-- "MEM.PAGE.ADD", four zeros, the address, zeros
pub add-first : block_at image (plan_bytes two) 0
    ≡ add_tag ++ (0 ∷ 0 ∷ 0 ∷ 0 ∷ []) ++ (0 ∷ 0x10 ∷ 0 ∷ 0 ∷ 0 ∷ 0 ∷ 0 ∷ 0 ∷ []) ++ replicate 104 0
unfolding image two le number_at in_turn page_bytes plan_bytes page_at slice_of part view content held add_tag extend_tag head_block chunk_blocks extend_blocks page_blocks plan_blocks block_at
add-first = refl

-- block 1 extends the first page, before the second page is added: "MR.EXTEND", seven zeros, the chunk's address, zeros
pub extend-next : block_at image (plan_bytes two) 1
    ≡ extend_tag ++ replicate 7 0 ++ (0 ∷ 0x10 ∷ 0 ∷ 0 ∷ 0 ∷ 0 ∷ 0 ∷ 0 ∷ []) ++ replicate 104 0
unfolding image two le number_at in_turn page_bytes plan_bytes page_at slice_of part view content held add_tag extend_tag head_block chunk_blocks extend_blocks page_blocks plan_blocks block_at
extend-next = refl

-- block 2 is the chunk's first half: the byte of data, and the zero tail is measured too
pub data-then-zeros : block_at image (plan_bytes two) 2 ≡ 5 ∷ replicate 127 0
unfolding image two le number_at in_turn page_bytes plan_bytes page_at slice_of part view content held add_tag extend_tag head_block chunk_blocks extend_blocks page_blocks plan_blocks block_at
data-then-zeros = refl

-- the last chunk is of zeros alone, at 0x1F00, and is there
pub last-chunk : block_at image (plan_bytes two) 46
    ≡ extend_tag ++ replicate 7 0 ++ (0 ∷ 0x1F ∷ 0 ∷ 0 ∷ 0 ∷ 0 ∷ 0 ∷ 0 ∷ []) ++ replicate 104 0
unfolding image two le number_at in_turn page_bytes plan_bytes page_at slice_of part view content held add_tag extend_tag head_block chunk_blocks extend_blocks page_blocks plan_blocks block_at
last-chunk = refl

-- block 49 adds the second page
pub add-second : block_at image (plan_bytes two) 49
    ≡ add_tag ++ (0 ∷ 0 ∷ 0 ∷ 0 ∷ []) ++ (0 ∷ 0x20 ∷ 0 ∷ 0 ∷ 0 ∷ 0 ∷ 0 ∷ 0 ∷ []) ++ replicate 104 0
unfolding image two le number_at in_turn page_bytes plan_bytes page_at slice_of part view content held add_tag extend_tag head_block chunk_blocks extend_blocks page_blocks plan_blocks block_at
add-second = refl

pub two-have-50 : length (blocks_of image [] two) ≡ 50
unfolding image two le in_turn slice_of part view content held add_tag extend_tag head_block chunk_blocks extend_blocks page_blocks blocks_of
two-have-50 = refl

-- the blocks of the plan's bytes are those of its pages
pub plan-as-pages : plan_blocks image (plan_bytes two) 2 ≡ blocks_of image [] two
unfolding image two le number_at in_turn page_bytes plan_bytes page_at slice_of part view content held add_tag extend_tag head_block chunk_blocks extend_blocks page_blocks plan_blocks blocks_of
plan-as-pages = refl

-- only the byte 1 measures
pub two-measures-not : length (blocks_of image [] (record { address = 0; offset = 0; length = 0; sort = 0; measured = 2 } ∷ [])) ≡ 1
unfolding page_blocks blocks_of
two-measures-not = refl
