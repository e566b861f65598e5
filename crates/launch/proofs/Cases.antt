-- The starred cases, computed. Assumes nothing.
use mathlib.Core.Path.{refl}
use Rattle.wire.specs.Number.{le, number_at}
use Rattle.verdict.specs.Refusal.{number, place, refusal_of}
use Rattle.verdict.specs.Turns.{in_turn}
use Rattle.verdict.specs.Rules.{judge}
use Rattle.memory.specs.Map.{record_at, records, count_broken, multiple_broken, top, end_broken, kind_broken, order_broken, end_before, cause_number, cause_place, width_allowed, record_tried, map_tried, map_rules, ram_or, holds, inside}
use Rattle.tdvf.specs.Image.{offset_word, section_count, descriptor_at, fields_of, signature, length_field, version, section_at, sections, length_broken, offset_broken, signature_broken, version_broken, descriptor_broken, descriptor_rules}
use Rattle.tdvf.specs.Section.{attributes_allowed, raw_allowed, kind_allowed, sort_broken, attributes_broken, raw_broken, data_broken, memory_broken, image_rules, shares, shared_broken, how_many, boot_broken, handoff_broken, pages_in_all, pages_broken, handoff_section}
use Rattle.plan.specs.Plan.{source_of, data_length, data_offset, page_of, pages_of, pages}
use Rattle.handoff.specs.Pieces.{lower_of, next_of, piece_at, cut, pieces_of, pieces}
use Rattle.handoff.specs.List.{list_length}
use Rattle.measure.specs.Stream.{measured_pages, block_count}
use Rattle.launch.specs.Host.{buffers_broken, width_broken}
use Rattle.launch.specs.Rules.{outside_broken, handoff_length, list_broken, first_rules, section_rules, last_rules, rules, verdict}
use Rattle.launch.specs.Launch.{page_list, refused_answer, accepted_answer, accepted, answer}
use Rattle.launch.specs.Cases.{section_bytes, descriptor_bytes, image_of, record_bytes, boot, hob, temporary, image, ram, firmware, host_of, host, told, starred, further, Holds}

pub claim : Holds starred
unfolding le number_at number place refusal_of in_turn judge record_at records count_broken multiple_broken top end_broken kind_broken order_broken end_before cause_number cause_place width_allowed record_tried map_tried map_rules ram_or holds inside offset_word section_count descriptor_at fields_of signature length_field version section_at sections length_broken offset_broken signature_broken version_broken descriptor_broken attributes_allowed raw_allowed kind_allowed sort_broken attributes_broken raw_broken data_broken memory_broken image_rules shares shared_broken how_many boot_broken handoff_broken pages_in_all pages_broken handoff_section source_of data_length data_offset page_of pages_of pages lower_of next_of piece_at cut pieces_of pieces list_length measured_pages block_count buffers_broken width_broken outside_broken handoff_length list_broken first_rules descriptor_rules section_rules last_rules rules verdict page_list refused_answer accepted_answer accepted answer section_bytes descriptor_bytes image_of record_bytes boot hob temporary image ram firmware host_of host told starred
claim = (refl, (refl, (refl, (refl, (refl, (refl, (refl, (refl, (refl, (refl, (refl, (refl, (refl, (refl, (refl, tt)))))))))))))))

pub further-claim : Holds further
unfolding le number_at number place refusal_of in_turn judge record_at records count_broken multiple_broken top end_broken kind_broken order_broken end_before cause_number cause_place width_allowed record_tried map_tried map_rules ram_or holds inside offset_word section_count descriptor_at fields_of signature length_field version section_at sections length_broken offset_broken signature_broken version_broken descriptor_broken attributes_allowed raw_allowed kind_allowed sort_broken attributes_broken raw_broken data_broken memory_broken image_rules shares shared_broken how_many boot_broken handoff_broken pages_in_all pages_broken handoff_section source_of data_length data_offset page_of pages_of pages lower_of next_of piece_at cut pieces_of pieces list_length measured_pages block_count buffers_broken width_broken outside_broken handoff_length list_broken first_rules descriptor_rules section_rules last_rules rules verdict page_list refused_answer accepted_answer accepted answer section_bytes descriptor_bytes image_of record_bytes boot hob temporary image ram firmware host_of host told further
further-claim = (refl, (refl, (refl, (refl, (refl, (refl, (refl, (refl, (refl, (refl, tt))))))))))
