-- Page 01, "A launch in full": the worked launch whole, computed. Assumes nothing.
use mathlib.Core.Path.{◌≡◌, refl}
use mathlib.Core.List.{List, [], ◌∷◌, map}
use Rattle.wire.specs.Number.{le, number_at}
use Rattle.verdict.specs.Turns.{in_turn}
use Rattle.memory.specs.Map.{record_at, records}
use Rattle.tdvf.specs.Image.{offset_word, section_count, descriptor_at, fields_of, signature, section_at, sections}
use Rattle.tdvf.specs.Section.{handoff_section}
use Rattle.plan.specs.declared.Page.{Page}
use Rattle.plan.specs.Plan.{source_of, data_length, data_offset, page_of, pages_of, pages, page_bytes, plan_bytes}
use Rattle.handoff.specs.Pieces.{resource_type, resource_attributes, piece_numbers, lower_of, next_of, piece_at, cut, pieces_of, pieces}
use Rattle.handoff.specs.List.{first_block, piece_block, last_block, piece_blocks, list_length, list_bytes}
use Rattle.measure.specs.Stream.{measured_pages, block_count}
use Rattle.launch.specs.Rules.{handoff_length}
use Rattle.launch.specs.Launch.{page_list, handoff_list}
use Rattle.launch.specs.Cases.{section_bytes, descriptor_bytes, image_of, record_bytes, boot, hob, temporary, image, ram, firmware, host_of, host}

-- the listing's four records
pub plan : List Page
plan =
    record { address = 0xFFFFF000; offset = 0; length = 4096; sort = 0; measured = 1 } ∷
    record { address = 0x9000; offset = 0; length = 256; sort = 2; measured = 0 } ∷
    record { address = 0xA000; offset = 0; length = 0; sort = 3; measured = 0 } ∷
    record { address = 0xB000; offset = 0; length = 0; sort = 3; measured = 0 } ∷ []

pub plan-is : page_list host (fields_of image) ≡ plan
unfolding plan le number_at in_turn record_at records offset_word section_count descriptor_at fields_of signature section_at sections source_of data_length data_offset page_of pages_of pages lower_of next_of piece_at cut pieces_of pieces list_length handoff_length page_list section_bytes descriptor_bytes image_of record_bytes boot hob temporary image ram firmware host_of host
plan-is = refl

-- and their 64 bytes
pub plan-bytes : plan_bytes plan ≡
    0x00 ∷ 0xF0 ∷ 0xFF ∷ 0xFF ∷ 0 ∷ 0 ∷ 0 ∷ 0 ∷ 0 ∷ 0 ∷ 0 ∷ 0 ∷ 0x00 ∷ 0x10 ∷ 0 ∷ 1 ∷
    0x00 ∷ 0x90 ∷ 0x00 ∷ 0x00 ∷ 0 ∷ 0 ∷ 0 ∷ 0 ∷ 0 ∷ 0 ∷ 0 ∷ 0 ∷ 0x00 ∷ 0x01 ∷ 2 ∷ 0 ∷
    0x00 ∷ 0xA0 ∷ 0x00 ∷ 0x00 ∷ 0 ∷ 0 ∷ 0 ∷ 0 ∷ 0 ∷ 0 ∷ 0 ∷ 0 ∷ 0x00 ∷ 0x00 ∷ 3 ∷ 0 ∷
    0x00 ∷ 0xB0 ∷ 0x00 ∷ 0x00 ∷ 0 ∷ 0 ∷ 0 ∷ 0 ∷ 0 ∷ 0 ∷ 0 ∷ 0 ∷ 0x00 ∷ 0x00 ∷ 3 ∷ 0 ∷ []
unfolding plan le page_bytes plan_bytes
plan-bytes = refl

-- "Pieces: 0 to 0x9000 type 7; 0x9000 to 0xA000 type 0; 0xA000 to 0xC000 type 0; 0xC000 to 0x10000 type 7"
pub pieces_are : map piece_numbers (pieces (sections (fields_of image)) (records host.map)) ≡
    (7 ∷ 7 ∷ 0 ∷ 0x9000 ∷ []) ∷
    (0 ∷ 7 ∷ 0x9000 ∷ 0x1000 ∷ []) ∷
    (0 ∷ 7 ∷ 0xA000 ∷ 0x2000 ∷ []) ∷
    (7 ∷ 7 ∷ 0xC000 ∷ 0x4000 ∷ []) ∷ []
unfolding resource_type resource_attributes le number_at in_turn record_at records offset_word section_count descriptor_at fields_of signature section_at sections lower_of next_of piece_at cut pieces_of pieces section_bytes descriptor_bytes image_of record_bytes boot hob temporary image ram firmware host_of host
pieces_are = refl

-- "pages 4 hob 256 blocks 52"
pub handoff-is-256 : handoff_length host (fields_of image) ≡ 256
unfolding le number_at in_turn record_at records offset_word section_count descriptor_at fields_of signature section_at sections lower_of next_of piece_at cut pieces_of pieces list_length handoff_length section_bytes descriptor_bytes image_of record_bytes boot hob temporary image ram firmware host_of host
handoff-is-256 = refl

pub blocks-are-52 : block_count plan ≡ 52
unfolding plan measured_pages block_count
blocks-are-52 = refl

-- the list's 256 bytes; its first block's last field, at 48, is 0x9100
pub handoff-is : handoff_list host (fields_of image) ≡
    0x01 ∷ 0 ∷ 0x38 ∷ 0 ∷ 0 ∷ 0 ∷ 0 ∷ 0 ∷ 0x09 ∷ 0 ∷ 0 ∷ 0 ∷ 0 ∷ 0 ∷ 0 ∷ 0 ∷
    0 ∷ 0 ∷ 0 ∷ 0 ∷ 0 ∷ 0 ∷ 0 ∷ 0 ∷ 0 ∷ 0 ∷ 0 ∷ 0 ∷ 0 ∷ 0 ∷ 0 ∷ 0 ∷
    0 ∷ 0 ∷ 0 ∷ 0 ∷ 0 ∷ 0 ∷ 0 ∷ 0 ∷ 0 ∷ 0 ∷ 0 ∷ 0 ∷ 0 ∷ 0 ∷ 0 ∷ 0 ∷
    0 ∷ 0x91 ∷ 0 ∷ 0 ∷ 0 ∷ 0 ∷ 0 ∷ 0 ∷ 0x03 ∷ 0 ∷ 0x30 ∷ 0 ∷ 0 ∷ 0 ∷ 0 ∷ 0 ∷
    0 ∷ 0 ∷ 0 ∷ 0 ∷ 0 ∷ 0 ∷ 0 ∷ 0 ∷ 0 ∷ 0 ∷ 0 ∷ 0 ∷ 0 ∷ 0 ∷ 0 ∷ 0 ∷
    0x07 ∷ 0 ∷ 0 ∷ 0 ∷ 0x07 ∷ 0 ∷ 0 ∷ 0 ∷ 0 ∷ 0 ∷ 0 ∷ 0 ∷ 0 ∷ 0 ∷ 0 ∷ 0 ∷
    0 ∷ 0x90 ∷ 0 ∷ 0 ∷ 0 ∷ 0 ∷ 0 ∷ 0 ∷ 0x03 ∷ 0 ∷ 0x30 ∷ 0 ∷ 0 ∷ 0 ∷ 0 ∷ 0 ∷
    0 ∷ 0 ∷ 0 ∷ 0 ∷ 0 ∷ 0 ∷ 0 ∷ 0 ∷ 0 ∷ 0 ∷ 0 ∷ 0 ∷ 0 ∷ 0 ∷ 0 ∷ 0 ∷
    0 ∷ 0 ∷ 0 ∷ 0 ∷ 0x07 ∷ 0 ∷ 0 ∷ 0 ∷ 0 ∷ 0x90 ∷ 0 ∷ 0 ∷ 0 ∷ 0 ∷ 0 ∷ 0 ∷
    0 ∷ 0x10 ∷ 0 ∷ 0 ∷ 0 ∷ 0 ∷ 0 ∷ 0 ∷ 0x03 ∷ 0 ∷ 0x30 ∷ 0 ∷ 0 ∷ 0 ∷ 0 ∷ 0 ∷
    0 ∷ 0 ∷ 0 ∷ 0 ∷ 0 ∷ 0 ∷ 0 ∷ 0 ∷ 0 ∷ 0 ∷ 0 ∷ 0 ∷ 0 ∷ 0 ∷ 0 ∷ 0 ∷
    0 ∷ 0 ∷ 0 ∷ 0 ∷ 0x07 ∷ 0 ∷ 0 ∷ 0 ∷ 0 ∷ 0xA0 ∷ 0 ∷ 0 ∷ 0 ∷ 0 ∷ 0 ∷ 0 ∷
    0 ∷ 0x20 ∷ 0 ∷ 0 ∷ 0 ∷ 0 ∷ 0 ∷ 0 ∷ 0x03 ∷ 0 ∷ 0x30 ∷ 0 ∷ 0 ∷ 0 ∷ 0 ∷ 0 ∷
    0 ∷ 0 ∷ 0 ∷ 0 ∷ 0 ∷ 0 ∷ 0 ∷ 0 ∷ 0 ∷ 0 ∷ 0 ∷ 0 ∷ 0 ∷ 0 ∷ 0 ∷ 0 ∷
    0x07 ∷ 0 ∷ 0 ∷ 0 ∷ 0x07 ∷ 0 ∷ 0 ∷ 0 ∷ 0 ∷ 0xC0 ∷ 0 ∷ 0 ∷ 0 ∷ 0 ∷ 0 ∷ 0 ∷
    0 ∷ 0x40 ∷ 0 ∷ 0 ∷ 0 ∷ 0 ∷ 0 ∷ 0 ∷ 0xFF ∷ 0xFF ∷ 0x08 ∷ 0 ∷ 0 ∷ 0 ∷ 0 ∷ 0 ∷ []
unfolding resource_type resource_attributes le number_at in_turn record_at records offset_word section_count descriptor_at fields_of signature section_at sections handoff_section lower_of next_of piece_at cut pieces_of pieces first_block piece_block last_block piece_blocks list_length list_bytes handoff_list section_bytes descriptor_bytes image_of record_bytes boot hob temporary image ram firmware host_of host
handoff-is = refl

pub past-is-9100 : number_at 8 (handoff_list host (fields_of image)) 48 ≡ 0x9100
unfolding le number_at in_turn record_at records offset_word section_count descriptor_at fields_of signature section_at sections handoff_section lower_of next_of piece_at cut pieces_of pieces first_block piece_block last_block piece_blocks list_length list_bytes handoff_list section_bytes descriptor_bytes image_of record_bytes boot hob temporary image ram firmware host_of host
past-is-9100 = refl
