-- Page 01, "Order of the rules": the table, as a row of rules in the page's order. Each rule's type shows what it depends on: `Host`
-- alone, `Fields` (what is read of the image) alone, or both.
-- Assumes nothing.
use Rattle.std.specs.Prelude.{Bool, not, List, [], ◌∷◌, ◌++◌, ℕ, ltb, Result, Ok}
use Rattle.std.specs.Result.{result_and}
use Rattle.verdict.specs.declared.Place.TheVariants.{Nowhere, Section}
use Rattle.verdict.specs.declared.Refusal.{Refusal}
use Rattle.verdict.specs.Turns.{in_turn, up_to}
use Rattle.verdict.specs.Rules.{Rule, Verdict, rule, judge}
use Rattle.memory.specs.Map.{records, map_rules, inside}
use Rattle.tdvf.specs.Image.{Fields, section_count, section_at, sections, length_broken, descriptor_rules}
use Rattle.tdvf.specs.Section.{kind_allowed, image_rules, shared_broken, boot_broken, handoff_broken, pages_in_all, pages_broken, handoff_section}
use Rattle.tdvf.specs.declared.Section as a
use Rattle.handoff.specs.Pieces.{pieces}
use Rattle.handoff.specs.List.{list_length}
use Rattle.launch.specs.declared.Layout.{Layout}
use Rattle.launch.specs.Host.{Host, buffers_broken, width_broken}

-- ---- the two rules that depend on both

-- 14: "not inside one allowed record"
unfoldable pub outside_broken : Host → a.Section → Bool
outside_broken h s = not (inside (kind_allowed s.sort) (records h.map) s.address s.size)

-- the HOB list's length
unfoldable pub handoff_length : Host → Fields → ℕ
handoff_length h f = list_length (pieces (sections f) (records h.map))

-- 19: "HOB list longer than the TD HOB section's memory size"
unfoldable pub list_broken : Host → Fields → Bool
list_broken h f = ltb (handoff_section (sections f)).size (handoff_length h f)

-- ---- the table: rules 1 to 3, then the map's (memory/specs/Map), 5 to 8 (tdvf/specs/Image), 9 to 13 (tdvf/specs/Section) with 14 and
-- 15 for each section, and 16 to 19

unfoldable pub first_rules : Host → Fields → List Rule
first_rules h f =
    rule 1 Nowhere (buffers_broken h) ∷
    rule 2 Nowhere (width_broken h) ∷
    rule 3 Nowhere (length_broken f) ∷ []

unfoldable pub section_rules : Host → Fields → ℕ → List Rule
section_rules h f k =
    let s = section_at f.descriptor k in
    image_rules f.length s k ++ (
    rule 14 (Section k) (outside_broken h s) ∷
    rule 15 (Section k) (shared_broken (up_to (section_at f.descriptor) k) s) ∷ [])

unfoldable pub last_rules : Host → Fields → List Rule
last_rules h f =
    rule 16 Nowhere (boot_broken f) ∷
    rule 17 Nowhere (handoff_broken f) ∷
    rule 18 Nowhere (pages_broken f) ∷
    rule 19 Nowhere (list_broken h f) ∷ []

-- "Rules 9 to 15 are tried for section 0 in this order, then for section 1, and so on; rules 16 to 19 come after all sections"
unfoldable pub rules : Host → Fields → List Rule
rules h f =
    first_rules h f
    ++ (map_rules h.width h.map
    ++ (descriptor_rules f
    ++ (in_turn (section_rules h f) (section_count f.descriptor)
    ++ last_rules h f)))

-- "The launch stops at the first broken rule and answers it"
unfoldable pub verdict : Host → Fields → Verdict
verdict h f = judge (rules h f)

-- what the checks answer: the verdict, or what the writers need of an accepted launch
unfoldable pub layout_of : Host → Fields → Layout
layout_of h f =
    record {
      offset = f.offset;
      count = section_count f.descriptor;
      pages = pages_in_all (sections f);
      handoff = handoff_length h f;
      address = (handoff_section (sections f)).address;
    }

unfoldable pub checked : Host → Fields → Result Layout Refusal
checked h f = result_and (verdict h f) (Ok (layout_of h f))
