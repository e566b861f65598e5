-- The definitions of the image computed: either side of each rule, and the places where an error looks right. Each table lists
-- what is tried, and true where the rule is broken. Assumes nothing.
use mathlib.Core.Path.{◌≡◌, refl}
use mathlib.Core.Bool.{Bool, true, false}
use mathlib.Core.List.{List, [], ◌∷◌, ◌++◌, map}
use Prim.Native.Nat.{ℕ, ◌+◌, ◌-◌, ◌*◌, ◌^◌}
use lib.ListN.{length, replicate}
use Rattle.wire.specs.Number.{le, number_at}
use Rattle.verdict.specs.declared.Place.TheVariants as place
use Rattle.verdict.specs.declared.Refusal.TheVariants as refusal
use Rattle.std.specs.Prelude.{Ok, Err}
use Rattle.verdict.specs.Refusal.{refusal_of}
use Rattle.verdict.specs.Rules.{judge}
use Rattle.verdict.specs.Turns.{in_turn}
use Rattle.memory.specs.Map.{ram_or}
use Rattle.tdvf.specs.declared.Section.{Section}
use Rattle.tdvf.proofs.Descriptor.{at}
use Rattle.tdvf.specs.Image.{Fields, offset_word, section_count, descriptor_at, fields_of, signature, length_field, version, section_at, sections, length_broken, offset_broken, signature_broken, version_broken, descriptor_broken, descriptor_rules, located}
use Rattle.tdvf.specs.Section.{attributes_allowed, raw_allowed, kind_allowed, sort_broken, attributes_broken, raw_broken, data_broken, memory_broken, image_rules, shares, shared_broken, how_many, pages_in_all, handoff_section, boot_broken, handoff_broken, pages_broken, totals_of}

-- ---- what is tried

abbrev fields_at : ℕ → ℕ → List ℕ → Fields
fields_at L D descriptor = record { length = L; offset = D; descriptor = descriptor }

-- the first 16 bytes of a descriptor: signature, length, version, sections
abbrev front : List ℕ → ℕ → ℕ → ℕ → List ℕ
front signed field number count = signed ++ le 4 field ++ le 4 number ++ le 4 count

abbrev section : ℕ → ℕ → ℕ → ℕ → ℕ → ℕ → Section
section offset raw address size sort attributes =
    record { offset = offset; raw = raw; address = address; size = size; sort = sort; attributes = attributes }

-- a section's 32 bytes, and the fields of an image with these sections
abbrev bytes_of : Section → List ℕ
bytes_of s = le 4 s.offset ++ le 4 s.raw ++ le 8 s.address ++ le 8 s.size ++ le 4 s.sort ++ le 4 s.attributes

abbrev all_bytes : List Section → List ℕ
all_bytes [] = []
all_bytes (s ∷ ss) = bytes_of s ++ all_bytes ss

abbrev fields_with : List Section → Fields
fields_with ss = fields_at 8192 0 (front signature (16 + 32 * length ss) 1 (length ss) ++ all_bytes ss)

-- sections of the types 0, 2 and 3
abbrev boot : ℕ → ℕ → Section
boot address size = section 0 4096 address size 0 1

abbrev handoff : ℕ → ℕ → Section
handoff address size = section 0 0 address size 2 0

pub memory_of : ℕ → ℕ → Section
memory_of address size = section 0 0 address size 3 0

-- ---- 3: the length

pub lengths : map (λ L. length_broken (fields_at L 0 [])) (0 ∷ 31 ∷ 32 ∷ 16777216 ∷ 16777217 ∷ []) ≡ true ∷ true ∷ false ∷ false ∷ true ∷ []
unfolding length_broken
lengths = refl

-- ---- 5: D + 16 at most L - 32, of 4,096 bytes; of few bytes, where L - 32 is below 16; and where D + 16 is 2 ^ 32

pub offsets : map (λ D. offset_broken (fields_at 4096 D [])) (0 ∷ 4048 ∷ 4049 ∷ (2 ^ 32 - 16) ∷ []) ≡ false ∷ false ∷ true ∷ true ∷ []
unfolding offset_broken
offsets = refl

pub offsets-short : map (λ L. offset_broken (fields_at L 0 [])) (32 ∷ 47 ∷ 48 ∷ []) ≡ true ∷ true ∷ false ∷ []
unfolding offset_broken
offsets-short = refl

-- D counts from the image's start: 96 bytes, the descriptor at 8 and the offset word at 64
pub small : List ℕ
small = replicate 8 0 ++ (signature ++ replicate 52 0) ++ (le 4 8 ++ replicate 28 0)

pub small-starts-at-8 : (fields_of small).offset ≡ 8
unfolding small signature le number_at offset_word fields_of
small-starts-at-8 = refl

-- ---- 6: the signature, and one that differs in its last byte, in its first, and in their order

pub signatures : map (λ s. signature_broken (fields_at 4096 0 (front s 48 1 1)))
    (signature ∷ (0x54 ∷ 0x44 ∷ 0x56 ∷ 0x47 ∷ []) ∷ (0x55 ∷ 0x44 ∷ 0x56 ∷ 0x46 ∷ []) ∷ (0x46 ∷ 0x56 ∷ 0x44 ∷ 0x54 ∷ []) ∷ [])
    ≡ false ∷ true ∷ true ∷ true ∷ []
unfolding signature_broken signature le number_at
signatures = refl

pub small-is-signed : signature_broken (fields_of small) ≡ false
unfolding small signature le number_at offset_word section_count descriptor_at fields_of signature_broken
small-is-signed = refl

-- ---- 7: the version

pub versions : map (λ v. version_broken (fields_at 4096 0 (front signature 48 v 1))) (0 ∷ 1 ∷ 2 ∷ []) ≡ true ∷ false ∷ true ∷ []
unfolding version_broken version signature le number_at
versions = refl

-- ---- 8: the sections, with the length that so many have; the length field of one section; and the end of one at 8

pub counts : map (λ n. descriptor_broken (fields_at 4096 0 (front signature (16 + 32 * n) 1 n))) (0 ∷ 1 ∷ 32 ∷ 33 ∷ []) ≡ true ∷ false ∷ false ∷ true ∷ []
unfolding descriptor_broken length_field section_count signature le number_at
counts = refl

pub length_fields : map (λ l. descriptor_broken (fields_at 4096 0 (front signature l 1 1))) (32 ∷ 47 ∷ 48 ∷ 49 ∷ []) ≡ true ∷ true ∷ false ∷ true ∷ []
unfolding descriptor_broken length_field section_count signature le number_at
length_fields = refl

pub ends : map (λ L. descriptor_broken (fields_at L 8 (front signature 48 1 1))) (87 ∷ 88 ∷ []) ≡ true ∷ false ∷ []
unfolding descriptor_broken length_field section_count signature le number_at
ends = refl

-- "Signature wrong and version wrong: 6"
pub signature-first : judge (descriptor_rules (fields_at 4096 0 (front (0 ∷ 0 ∷ 0 ∷ 0 ∷ []) 48 2 1))) ≡ Err (refusal.Signature place.Nowhere)
unfolding judge refusal_of descriptor_rules offset_broken signature_broken signature le number_at
signature-first = refl

-- a descriptor that is found, and one that ends a byte too late
pub found : located (fields_at 88 8 (front signature 48 1 1)) ≡ Ok (at 8 1)
unfolding located judge descriptor_rules offset_broken signature_broken version_broken version descriptor_broken length_field section_count signature le number_at
found = refl

pub missed : located (fields_at 87 8 (front signature 48 1 1)) ≡ Err (refusal.Descriptor place.Nowhere)
unfolding located judge refusal_of descriptor_rules offset_broken signature_broken version_broken version descriptor_broken length_field section_count signature le number_at
missed = refl

-- a section is read where it is: each field has a number of its own
pub read_back : section_at (front signature 80 1 2 ++ all_bytes (boot 0 4096 ∷ section 1 2 3 4 5 6 ∷ [])) 1 ≡ section 1 2 3 4 5 6
unfolding section_at signature le number_at
read_back = refl

-- ---- 9: the type

pub sorts : map (λ t. sort_broken (section 0 0 0 0 t 0)) (0 ∷ 3 ∷ 4 ∷ []) ≡ false ∷ false ∷ true ∷ []
unfolding sort_broken
sorts = refl

-- ---- 10: the attributes 0, 1, 2 and 3 of each type

abbrev attributes_tried : ℕ → List Bool
attributes_tried t = map (λ a. attributes_broken (section 0 0 0 0 t a)) (0 ∷ 1 ∷ 2 ∷ 3 ∷ [])

pub attributes-of-0 : attributes_tried 0 ≡ true ∷ false ∷ true ∷ true ∷ []
unfolding attributes_broken attributes_allowed
attributes-of-0 = refl

pub attributes-of-1 : attributes_tried 1 ≡ false ∷ false ∷ true ∷ true ∷ []
unfolding attributes_broken attributes_allowed
attributes-of-1 = refl

pub attributes-of-2 : attributes_tried 2 ≡ false ∷ true ∷ true ∷ true ∷ []
unfolding attributes_broken attributes_allowed
attributes-of-2 = refl

pub attributes-of-3 : attributes_tried 3 ≡ false ∷ true ∷ true ∷ true ∷ []
unfolding attributes_broken attributes_allowed
attributes-of-3 = refl

-- ---- 11: raw size 0 and 1 of each type, and an offset with no data

pub raws : map (λ t. raw_broken (section 0 0 0 0 t 0)) (0 ∷ 1 ∷ 2 ∷ 3 ∷ []) ≡ true ∷ true ∷ false ∷ false ∷ []
unfolding raw_broken raw_allowed
raws = refl

pub raws-of-one : map (λ t. raw_broken (section 0 1 0 0 t 0)) (0 ∷ 1 ∷ 2 ∷ 3 ∷ []) ≡ false ∷ false ∷ true ∷ true ∷ []
unfolding raw_broken raw_allowed
raws-of-one = refl

pub offsets-of-none : map (λ t. raw_broken (section 1 0 0 0 t 0)) (2 ∷ 3 ∷ []) ≡ true ∷ true ∷ []
unfolding raw_broken raw_allowed
offsets-of-none = refl

-- ---- 12: the data of an image of 4,096 bytes, from 0 and from 1

pub datas : map (λ r. data_broken 4096 (section 0 r 0 0 0 1)) (4096 ∷ 4097 ∷ []) ≡ false ∷ true ∷ []
unfolding data_broken
datas = refl

pub datas-from-one : map (λ r. data_broken 4096 (section 1 r 0 0 0 1)) (4095 ∷ 4096 ∷ []) ≡ false ∷ true ∷ []
unfolding data_broken
datas-from-one = refl

-- data whose end, taken in 32 bits, would be 0
pub far : Section
far = section (2 ^ 32 - 4096) 4096 0 4096 0 1

pub far-is-outside : data_broken 4096 far ≡ true
unfolding far data_broken
far-is-outside = refl

-- ---- 13: the address, the size, and the raw size of a page

pub addresses : map (λ a. memory_broken (section 0 0 a 0x1000 3 0)) (0 ∷ 0x800 ∷ 0x1000 ∷ 0x1001 ∷ []) ≡ false ∷ true ∷ false ∷ true ∷ []
unfolding memory_broken
addresses = refl

pub sizes : map (λ z. memory_broken (section 0 0 0 z 3 0)) (0 ∷ 0x800 ∷ 0x1000 ∷ 0x1001 ∷ []) ≡ true ∷ true ∷ false ∷ true ∷ []
unfolding memory_broken
sizes = refl

pub raw-sizes : map (λ r. memory_broken (section 0 r 0 0x1000 0 1)) (0xFFF ∷ 0x1000 ∷ 0x1001 ∷ []) ≡ false ∷ false ∷ true ∷ []
unfolding memory_broken
raw-sizes = refl

-- the order of rules 9 to 13: each breaks all rules from its own on, at section 2
pub in_order : map (λ s. judge (image_rules 4096 s 2))
    (section 1 0 1 1 4 2 ∷ section 1 0 1 1 2 2 ∷ section 8192 1 1 1 2 0 ∷ section 8192 1 1 1 0 1 ∷ section 0 1 1 1 0 1 ∷ section 0 1 0 4096 0 1 ∷ [])
    ≡ Err (refusal.Type (place.Section 2)) ∷ Err (refusal.Attributes (place.Section 2)) ∷ Err (refusal.Raw (place.Section 2)) ∷ Err (refusal.Data (place.Section 2)) ∷ Err (refusal.Memory (place.Section 2)) ∷ Ok tt ∷ []
unfolding judge refusal_of image_rules sort_broken attributes_broken attributes_allowed raw_broken raw_allowed data_broken memory_broken
in_order = refl

-- ---- 14: the kinds 1, 2 and 3 for each type

abbrev kinds_tried : ℕ → List Bool
kinds_tried t = map (kind_allowed t) (1 ∷ 2 ∷ 3 ∷ [])

pub kinds : map kinds_tried (0 ∷ 1 ∷ 2 ∷ 3 ∷ [])
    ≡ (true ∷ true ∷ false ∷ []) ∷ (true ∷ true ∷ false ∷ []) ∷ (true ∷ false ∷ false ∷ []) ∷ (true ∷ false ∷ false ∷ []) ∷ []
unfolding kind_allowed ram_or
kinds = refl

-- ---- 15: sections that share addresses though neither starts where the other does

pub meet : shares (memory_of 0x8000 0x2000) (memory_of 0x9000 0x1000) ≡ true
unfolding memory_of shares
meet = refl

-- and sections that only touch
pub touch : shares (memory_of 0x8000 0x1000) (memory_of 0x9000 0x1000) ≡ false
unfolding memory_of shares
touch = refl

-- the last page below 2 ^ 64, with the pages around it and the page at 0
pub last : map (shares (memory_of (2 ^ 64 - 0x1000) 0x1000))
    (memory_of (2 ^ 64 - 0x2000) 0x1000 ∷ memory_of (2 ^ 64 - 0x2000) 0x2000 ∷ memory_of 0 0x1000 ∷ [])
    ≡ false ∷ true ∷ false ∷ []
unfolding memory_of shares
last = refl

-- an end past 2 ^ 64 does not come round to 0
pub past : shares (memory_of (2 ^ 64 - 0x1000) 0x2000) (memory_of 0 0x1000) ≡ false
unfolding memory_of shares
past = refl

-- any of the earlier sections
pub earlier : map (shared_broken (memory_of 0x1000 0x1000 ∷ memory_of 0x4000 0x2000 ∷ [])) (memory_of 0x2000 0x2000 ∷ memory_of 0x1000 0x1000 ∷ memory_of 0x5000 0x1000 ∷ [])
    ≡ false ∷ true ∷ true ∷ []
unfolding memory_of shares shared_broken
earlier = refl

-- ---- 16 to 18, of an image with these sections

pub boots : map (λ ss. boot_broken (fields_with ss))
    ((handoff 0x9000 4096 ∷ []) ∷ (handoff 0x9000 4096 ∷ boot 0 4096 ∷ []) ∷ (boot 0 4096 ∷ boot 4096 4096 ∷ []) ∷ (section 0 1 0 4096 1 0 ∷ []) ∷ [])
    ≡ true ∷ false ∷ false ∷ true ∷ []
unfolding boot_broken how_many sections in_turn section_at section_count signature le number_at
boots = refl

pub handoffs : map (λ ss. handoff_broken (fields_with ss))
    ((boot 0 4096 ∷ []) ∷ (boot 0 4096 ∷ handoff 0x9000 4096 ∷ []) ∷ (handoff 0x9000 4096 ∷ handoff 0xC000 4096 ∷ []) ∷ [])
    ≡ true ∷ false ∷ true ∷ []
unfolding handoff_broken how_many sections in_turn section_at section_count signature le number_at
handoffs = refl

-- 4,096 pages, and 4,097
pub pages : map (λ ss. pages_broken (fields_with ss))
    ((boot 0 (4095 * 4096) ∷ handoff 0x9000 4096 ∷ []) ∷ (boot 0 (4096 * 4096) ∷ handoff 0x9000 4096 ∷ []) ∷ [])
    ≡ false ∷ true ∷ []
unfolding pages_broken pages_in_all sections in_turn section_at section_count signature le number_at
pages = refl

-- the TD HOB section of the totals is the first
pub totals : totals_of (boot 0 4096 ∷ handoff 0x9000 0x2000 ∷ handoff 0xC000 0x1000 ∷ []) ≡ record { boots = 1; handoffs = 2; pages = 4; address = 0x9000; size = 0x2000 }
unfolding totals_of how_many pages_in_all handoff_section
totals = refl
