-- Page 01, "The image": the rules of a section that the image alone decides, true where one is broken, and those of all sections.
-- Ends are whole numbers, never wrapped.
-- Assumes nothing.
use Rattle.std.specs.Prelude.{Bool, true, false, not, ◌&&◌, ◌||◌, List, [], ◌∷◌, ℕ, zero, suc, ◌+◌, ◌/◌, ◌%◌, min, max, leb, ltb, eqb}
use Rattle.verdict.specs.declared.Place.TheVariants as place
use Rattle.verdict.specs.Rules.{Rule, rule, pick}
use Rattle.memory.specs.Map.{ram_or}
use Rattle.tdvf.specs.declared.Section.{Section}
use Rattle.tdvf.specs.declared.Totals.{Totals}
use Rattle.tdvf.specs.Image.{Fields, sections}

-- ---- the table of types: 0 boot volume, 1 configuration volume, 2 TD HOB, 3 temporary memory

abbrev pub is_boot : Section → Bool
is_boot s = eqb s.sort 0

abbrev pub is_handoff : Section → Bool
is_handoff s = eqb s.sort 2

-- the section's data is in the image: boot and configuration volumes
abbrev pub has_data : Section → Bool
has_data s = leb s.sort 1

-- "Attribute bit 0 (measure)"
abbrev pub measured : Section → ℕ
measured s = s.attributes % 2

-- "must be 1", "0 or 1", "must be 0", "must be 0"; "other attribute bits are 0"
unfoldable pub attributes_allowed : ℕ → ℕ → Bool
attributes_allowed zero a = eqb a 1
attributes_allowed (suc zero) a = leb a 1
attributes_allowed (suc (suc t)) a = eqb a 0

-- "Raw size": not 0 where there is data; else "0, data offset 0"
unfoldable pub raw_allowed : Section → Bool
raw_allowed s = pick (has_data s) (not (eqb s.raw 0)) (eqb s.raw 0 && eqb s.offset 0)

-- "Map kinds allowed": 1 and 2, RAM and firmware, for the volumes; 1 for TD HOB and temporary memory
unfoldable pub kind_allowed : ℕ → ℕ → Bool
kind_allowed sort kind = ram_or (leb sort 1) kind

-- ---- the rules of a section

-- 9: "type above 3"
unfoldable pub sort_broken : Section → Bool
sort_broken s = ltb 3 s.sort

-- 10: "attributes"
unfoldable pub attributes_broken : Section → Bool
attributes_broken s = not (attributes_allowed s.sort s.attributes)

-- 11: "raw size or data offset against the type"
unfoldable pub raw_broken : Section → Bool
raw_broken s = not (raw_allowed s)

-- 12: "data outside the image": data offset plus raw size is at most L
unfoldable pub data_broken : ℕ → Section → Bool
data_broken L s = ltb L (s.offset + s.raw)

-- 13: "memory address or size": multiples of 4,096; the size is not 0 and not below the raw size
unfoldable pub memory_broken : Section → Bool
memory_broken s =
    not (eqb (s.address % 4096) 0) || not (eqb (s.size % 4096) 0) || eqb s.size 0 || ltb s.size s.raw

-- rules 9 to 13 for section k, which is s, of an image of L bytes, in the page's order: the image alone decides them
unfoldable pub image_rules : ℕ → Section → ℕ → List Rule
image_rules L s k =
    rule 9 (place.Section k) (sort_broken s) ∷
    rule 10 (place.Section k) (attributes_broken s) ∷
    rule 11 (place.Section k) (raw_broken s) ∷
    rule 12 (place.Section k) (data_broken L s) ∷
    rule 13 (place.Section k) (memory_broken s) ∷ []

-- a section's end in memory
abbrev pub end : Section → ℕ
end s = s.address + s.size

-- two sections share an address: the higher start is below the lower end
unfoldable pub shares : Section → Section → Bool
shares s t = ltb (max s.address t.address) (min (end s) (end t))

-- 15: "shares an address with an earlier section"
unfoldable pub shared_broken : List Section → Section → Bool
shared_broken [] s = false
shared_broken (t ∷ earlier) s = shares t s || shared_broken earlier s

-- ---- the rules of all sections

abbrev count_if : Bool → ℕ → ℕ
count_if true n = suc n
count_if false n = n

-- how many sections are so
unfoldable pub how_many : (Section → Bool) → List Section → ℕ
how_many p [] = 0
how_many p (s ∷ ss) = count_if (p s) (how_many p ss)

-- 16: "no BFV"
unfoldable pub boot_broken : Fields → Bool
boot_broken f = eqb (how_many is_boot (sections f)) 0

-- 17: "TD HOB sections are not exactly one"
unfoldable pub handoff_broken : Fields → Bool
handoff_broken f = not (eqb (how_many is_handoff (sections f)) 1)

-- how many pages a section has
abbrev pub page_count : Section → ℕ
page_count s = s.size / 4096

unfoldable pub pages_in_all : List Section → ℕ
pages_in_all [] = 0
pages_in_all (s ∷ ss) = page_count s + pages_in_all ss

-- 18: "more than 4,096 pages in all"
unfoldable pub pages_broken : Fields → Bool
pages_broken f = ltb 4096 (pages_in_all (sections f))

-- the TD HOB section: the first there is, and one of no size where there is none
nowhere : Section
nowhere = record { offset = 0; raw = 0; address = 0; size = 0; sort = 2; attributes = 0 }

unfoldable pub handoff_section : List Section → Section
unfolding nowhere
handoff_section [] = nowhere
handoff_section (s ∷ ss) = let rest = handoff_section ss in pick (is_handoff s) s rest

-- what rules 16 to 19 go by, of a list of sections
unfoldable pub totals_of : List Section → Totals
totals_of ss =
    record {
      boots = how_many is_boot ss;
      handoffs = how_many is_handoff ss;
      pages = pages_in_all ss;
      address = (handoff_section ss).address;
      size = (handoff_section ss).size;
    }
