-- The definitions of the hand-off list computed. Assumes nothing.
use mathlib.Core.Path.{◌≡◌, refl}
use mathlib.Core.List.{[], ◌∷◌, map}
use Prim.Native.Nat.{ℕ}
use lib.ListN as list
use Rattle.wire.specs.Number.{le, number_at}
use Rattle.memory.specs.declared.Record.{Record}
use Rattle.tdvf.specs.declared.Section.{Section}
use Rattle.handoff.specs.Pieces.{resource_type, resource_attributes, piece_numbers, section_piece, run_piece, lower_of, next_of, piece_at, cut, pieces_of, pieces}
use Rattle.handoff.specs.List.{first_block, piece_block, last_block, piece_blocks, list_length, list_bytes}

abbrev memory_of : ℕ → ℕ → Section
memory_of address size = record { offset = 0; raw = 0; address = address; size = size; sort = 3; attributes = 0 }

abbrev record_of : ℕ → ℕ → ℕ → Record
record_of start size kind = record { start = start; length = size; kind = kind; filler = 0 }

-- sections out of order, the first two of them touching and the last at the record's end: no run of length 0 arises
pub cut-in-order : pieces (memory_of 0xF000 0x1000 ∷ memory_of 0x5000 0x1000 ∷ memory_of 0x4000 0x1000 ∷ []) (record_of 0 0x10000 1 ∷ [])
    ≡ run_piece 0 0x4000 ∷ section_piece 0x4000 0x1000 ∷ section_piece 0x5000 0x1000 ∷ run_piece 0x6000 0x9000 ∷ section_piece 0xF000 0x1000 ∷ []
unfolding pieces pieces_of cut lower_of next_of piece_at
cut-in-order = refl

-- a section at the start of a record and one that fills a record whole
pub cut-at-the-start : pieces (memory_of 0 0x1000 ∷ memory_of 0x3000 0x1000 ∷ []) (record_of 0 0x3000 1 ∷ record_of 0x3000 0x1000 1 ∷ [])
    ≡ section_piece 0 0x1000 ∷ run_piece 0x1000 0x2000 ∷ section_piece 0x3000 0x1000 ∷ []
unfolding pieces pieces_of cut lower_of next_of piece_at
cut-at-the-start = refl

-- "An MMIO record is one piece, type 1, attributes 0x403. Firmware records give none"
pub by_kind : map piece_numbers (pieces [] (record_of 0x1000 0x1000 2 ∷ record_of 0x2000 0x1000 3 ∷ []))
    ≡ (1 ∷ 0x403 ∷ 0x2000 ∷ 0x1000 ∷ []) ∷ []
unfolding resource_type resource_attributes pieces pieces_of cut lower_of next_of piece_at
by_kind = refl

-- each block is as long as it says
pub first-is-56 : list.length (first_block 0x9100) ≡ 56
unfolding first_block le
first-is-56 = refl

pub piece-is-48 : list.length (piece_block (run_piece 0 0x9000)) ≡ 48
unfolding piece_block le
piece-is-48 = refl

pub last-is : last_block ≡ 0xFF ∷ 0xFF ∷ 8 ∷ 0 ∷ 0 ∷ 0 ∷ 0 ∷ 0 ∷ []
unfolding last_block le
last-is = refl

-- "Section pieces have resource type 0, runs have type 7 (unaccepted), both with attributes 7"
pub section-is : piece_numbers (section_piece 1 2) ≡ 0 ∷ 7 ∷ 1 ∷ 2 ∷ []
unfolding resource_type resource_attributes
section-is = refl

pub run_is : piece_numbers (run_piece 1 2) ≡ 7 ∷ 7 ∷ 1 ∷ 2 ∷ []
unfolding resource_type resource_attributes
run_is = refl

-- the address just past a list with no piece, whose section is at 0x9000
pub past_is : number_at 8 (list_bytes 0x9000 []) 48 ≡ 0x9040
unfolding le number_at first_block last_block piece_blocks list_length list_bytes
past_is = refl

-- the list is as long as is said, here with one piece
pub list-is-112 : list.length (list_bytes 0x9000 (run_piece 0 0x9000 ∷ [])) ≡ list_length (run_piece 0 0x9000 ∷ [])
unfolding le first_block piece_block last_block piece_blocks list_length list_bytes
list-is-112 = refl
