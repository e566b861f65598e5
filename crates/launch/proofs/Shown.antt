-- That the demands speak of something: the worked launch is accepted, two accepted launches have different streams, and two different images
-- have equal ones. Assumes nothing.
use mathlib.Core.Path.{◌≡◌, refl, sym, ap, subst, ◌∙◌}
use mathlib.Core.Logic.{inr}
use mathlib.Core.List.{List, ◌++◌}
use Prim.Native.Nat.{ℕ, zero, suc, ◌+◌, ◌*◌, ◌≤◌, ◌<◌}
use native.Mathlib.Omega.{arith}
use native.Mathlib.Decide.{ℕ_discrete}
use lib.ListN.{length, get_or, set, length-set}
use lib.Seq.{get_or-set_other}
use Rattle.wire.specs.Number.{le, number_at}
use Rattle.verdict.specs.Refusal.{number, place, refusal_of}
use Rattle.verdict.specs.Turns.{in_turn}
use Rattle.verdict.specs.Rules.{judge}
use Rattle.verdict.proofs.Rules.{nothing-number}
use Rattle.memory.specs.Map.{record_at, records, count_broken, multiple_broken, top, end_broken, kind_broken, order_broken, end_before, cause_number, cause_place, width_allowed, record_tried, map_tried, map_rules, ram_or, holds, inside}
use Rattle.tdvf.specs.Image.{offset_word, section_count, descriptor_at, fields_of, signature, length_field, version, section_at, sections, length_broken, offset_broken, signature_broken, version_broken, descriptor_broken, descriptor_rules}
use Rattle.tdvf.specs.Section.{attributes_allowed, raw_allowed, kind_allowed, sort_broken, attributes_broken, raw_broken, data_broken, memory_broken, image_rules, measured, shares, shared_broken, how_many, boot_broken, handoff_broken, pages_in_all, pages_broken, handoff_section}
use Rattle.plan.specs.Plan.{source_of, data_length, data_offset, page_of, pages_of, pages}
use Rattle.handoff.specs.Pieces.{lower_of, next_of, piece_at, cut, pieces_of, pieces}
use Rattle.handoff.specs.List.{list_length}
use Rattle.measure.specs.Stream.{measured_pages, block_count}
use Rattle.launch.specs.Host.{buffers_broken, width_broken}
use Rattle.launch.specs.Rules.{outside_broken, handoff_length, list_broken, first_rules, section_rules, last_rules, rules, verdict}
use Rattle.launch.specs.Launch.{page_list, refused_answer, accepted_answer, stream_of, accepted, answer}
use Rattle.launch.specs.Cases.{section_bytes, descriptor_bytes, image_of, record_bytes, boot, hob, temporary, image, ram, firmware, host_of, host, Told, told, accepts, starred, Holds}
use Rattle.launch.specs.Demands.{Accepts, Unread, ChangedOutside, DifferentStreams, EqualStreams}
use Rattle.launch.proofs.Cases.{claim}
use Rattle.launch.proofs.Demands.{demand-2}
use Rattle.launch.proofs.Unread.{demand-3-unread}

-- a launch that is told to have no refusal is accepted
accepted-told : (i : List ℕ) (p b d : ℕ) → told host i ≡ accepts p b d → Accepts host i
unfolding told
accepted-told i p b d e = (nothing-number (answer host i).refusal).0 (ap (λ (t : Told). t.number) e)

pub worked-accepted : Accepts host image
unfolding starred
worked-accepted = accepted-told image 4 52 4096 claim.0

-- ---- different streams

-- the worked launch with one page of temporary memory
fewer : List ℕ
fewer = image_of 3952 (descriptor_bytes 3 (boot ++ hob ++ section_bytes 0 0 0xA000 0x1000 3 0))

fewer-told : told host fewer ≡ accepts 3 51 4096
unfolding fewer le number_at number place refusal_of in_turn judge record_at records count_broken multiple_broken top end_broken kind_broken order_broken end_before cause_number cause_place width_allowed record_tried map_tried map_rules ram_or holds inside offset_word section_count descriptor_at fields_of signature length_field version section_at sections length_broken offset_broken signature_broken version_broken descriptor_broken attributes_allowed raw_allowed kind_allowed sort_broken attributes_broken raw_broken data_broken memory_broken image_rules shares shared_broken how_many boot_broken handoff_broken pages_in_all pages_broken handoff_section source_of data_length data_offset page_of pages_of pages lower_of next_of piece_at cut pieces_of pieces list_length measured_pages block_count buffers_broken width_broken outside_broken handoff_length list_broken first_rules descriptor_rules section_rules last_rules rules verdict page_list refused_answer accepted_answer accepted answer section_bytes descriptor_bytes image_of record_bytes boot hob temporary image ram firmware host_of host told
fewer-told = refl

-- the stream's length, by the blocks that are told
stream-long : (i : List ℕ) (p b d : ℕ) → told host i ≡ accepts p b d → length (stream_of host i) ≡ 128 * b
unfolding told
stream-long i p b d e =
    sym ((demand-2 host i).1 (accepted-told i p b d e)).blocks ∙ ap (λ (t : Told). 128 * t.blocks) e

pub different-streams : DifferentStreams
unfolding starred
different-streams =
    record {
      host = host;
      image = image;
      other = fewer;
      accepted = worked-accepted;
      other-accepted = accepted-told fewer 3 51 4096 fewer-told;
      differ = λ e. omega (arith, stream-long image 4 52 4096 claim.0, stream-long fewer 3 51 4096 fewer-told, ap length e);
    }

-- ---- equal streams

-- the worked launch with one byte of data, and the same with another last byte
one : List ℕ
one = image_of 3952 (descriptor_bytes 3 (section_bytes 0 1 0xFFFFF000 0x1000 0 1 ++ hob ++ temporary))

one_told : told host one ≡ accepts 4 52 1
unfolding one le number_at number place refusal_of in_turn judge record_at records count_broken multiple_broken top end_broken kind_broken order_broken end_before cause_number cause_place width_allowed record_tried map_tried map_rules ram_or holds inside offset_word section_count descriptor_at fields_of signature length_field version section_at sections length_broken offset_broken signature_broken version_broken descriptor_broken attributes_allowed raw_allowed kind_allowed sort_broken attributes_broken raw_broken data_broken memory_broken image_rules shares shared_broken how_many boot_broken handoff_broken pages_in_all pages_broken handoff_section source_of data_length data_offset page_of pages_of pages lower_of next_of piece_at cut pieces_of pieces list_length measured_pages block_count buffers_broken width_broken outside_broken handoff_length list_broken first_rules descriptor_rules section_rules last_rules rules verdict page_list refused_answer accepted_answer accepted answer section_bytes descriptor_bytes image_of record_bytes boot hob temporary image ram firmware host_of host told
one_told = refl

changed : List ℕ
changed = set one 4095 1

-- what is read of it
one-read : ((fields_of one).length ≡ 4096) × ((fields_of one).offset ≡ 3952) × (section_count (fields_of one).descriptor ≡ 3)
unfolding one le number_at offset_word section_count descriptor_at fields_of signature section_bytes descriptor_bytes image_of hob temporary
one-read = (refl, refl, refl)

one-sections : ((section_at (fields_of one).descriptor 0).offset + (section_at (fields_of one).descriptor 0).raw ≡ 1)
    × (measured (section_at (fields_of one).descriptor 1) ≡ 0) × (measured (section_at (fields_of one).descriptor 2) ≡ 0)
unfolding one le number_at offset_word section_count descriptor_at fields_of signature section_at section_bytes descriptor_bytes image_of hob temporary
one-sections = (refl, refl, refl)

last-unread : Unread (fields_of one) 4095
last-unread =
    record {
      word = inr (omega (arith, one-read.0));
      descriptor = inr (omega (arith, one-read.1, one-read.2));
      «data» = λ k l m. inr (by_index k (omega (arith, one-read.2)) m);
    }
  where
    by_index : (k : ℕ) → k < 3 → measured (section_at (fields_of one).descriptor k) ≡ 1
        → (section_at (fields_of one).descriptor k).offset + (section_at (fields_of one).descriptor k).raw ≤ 4095
    by_index zero l m = omega (arith, one-sections.0)
    by_index (suc zero) l m = absurd (omega (arith, one-sections.1))
    by_index (suc (suc zero)) l m = absurd (omega (arith, one-sections.2))
    by_index (suc (suc (suc k))) l m = absurd (omega arith)

changed-outside : ChangedOutside one changed
unfolding changed
changed-outside = record { long = length-set one 4095 1; outside = λ i n. step i n (ℕ_discrete i 4095) }
  where
    step : (i : ℕ) → (get_or one i 0 ≡ get_or (set one 4095 1) i 0 → ⊥) → Dec (i ≡ 4095) → Unread (fields_of one) i
    step i n (yes e) = subst (Unread (fields_of one)) (sym e) last-unread
    step i n (no m) = absurd (n (sym (get_or-set_other one 4095 i 1 0 m)))

-- their last bytes differ
one_last : ◌≡◌ {A = ℕ} (get_or one 4095 0) 0
unfolding one le signature section_bytes descriptor_bytes image_of hob temporary
one_last = refl

changed-last : ◌≡◌ {A = ℕ} (get_or changed 4095 0) 1
unfolding changed one le signature section_bytes descriptor_bytes image_of hob temporary
changed-last = refl

pub equal-streams : EqualStreams
equal-streams =
    let accepted = accepted-told one 4 52 1 one_told in
    let same = demand-3-unread host one changed accepted changed-outside in
    record {
      host = host;
      image = one;
      other = changed;
      accepted = accepted;
      other-accepted = same.accepted;
      differ = λ e. omega (arith, one_last, changed-last, ap (λ (l : List ℕ). get_or l 4095 0) e);
      same = sym same.stream;
    }
