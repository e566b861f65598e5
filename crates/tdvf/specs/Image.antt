-- Page 01, "The image": what a launch reads of an image besides the data of its pages, and the descriptor.
-- Bytes past the end read as 0, so that every definition is total.
-- Assumes nothing.
use Rattle.std.specs.Prelude.{Bool, not, ◌||◌, List, [], ◌∷◌, ℕ, ◌+◌, ◌-◌, ◌*◌, min, ltb, eqb, Result, Ok}
use Rattle.std.specs.Result.{result_and}
use Rattle.std.proofs.Math.ListN as list
use Rattle.wire.specs.Number.{number_at}
use Rattle.verdict.specs.declared.Place.TheVariants.{Nowhere}
use Rattle.verdict.specs.declared.Refusal.{Refusal}
use Rattle.verdict.specs.Turns.{up_to}
use Rattle.verdict.specs.Rules.{Rule, rule, judge}
use Rattle.tdvf.specs.declared.Section.{Section}
use Rattle.tdvf.specs.declared.Located.{Located}

-- ---- what is read

-- The length, the offset word and the bytes of the descriptor, and nothing else of the image. Every rule sees the image through these
pub record Fields : Type 0 where
  -- L
  pub length : ℕ
  -- D
  pub offset : ℕ
  -- the bytes from D on: 16, and 32 for each section, of at most 32 sections
  pub descriptor : List ℕ

-- "The four bytes at L − 32 hold the descriptor's start D", counted from the image's start
unfoldable pub offset_word : List ℕ → ℕ
offset_word image = number_at 4 image (list.length image - 32)

-- "sections" of the descriptor, at 12
unfoldable pub section_count : List ℕ → ℕ
section_count descriptor = number_at 4 descriptor 12

-- the bytes of a descriptor that starts at D
unfoldable pub descriptor_at : List ℕ → ℕ → List ℕ
descriptor_at image D =
    let from = list.drop D image in
    list.take (16 + 32 * min 32 (section_count from)) from

unfoldable pub fields_of : List ℕ → Fields
fields_of image =
    let D = offset_word image in
    record { length = list.length image; offset = D; descriptor = descriptor_at image D }

-- ---- the descriptor

-- "TDVF", bytes 54 44 56 46
unfoldable pub signature : List ℕ
signature = 0x54 ∷ 0x44 ∷ 0x56 ∷ 0x46 ∷ []

-- "length of the descriptor" at 4, "version" at 8
unfoldable pub length_field : List ℕ → ℕ
length_field descriptor = number_at 4 descriptor 4

unfoldable pub version : List ℕ → ℕ
version descriptor = number_at 4 descriptor 8

-- "Each section has 32 bytes: data offset (4), raw size (4), memory address (8), memory size (8), type (4), attributes (4)"
unfoldable pub section_at : List ℕ → ℕ → Section
section_at descriptor k =
    record {
      offset = number_at 4 descriptor (16 + 32 * k);
      raw = number_at 4 descriptor (16 + 32 * k + 4);
      address = number_at 8 descriptor (16 + 32 * k + 8);
      size = number_at 8 descriptor (16 + 32 * k + 16);
      sort = number_at 4 descriptor (16 + 32 * k + 24);
      attributes = number_at 4 descriptor (16 + 32 * k + 28);
    }

unfoldable pub sections : Fields → List Section
sections f = up_to (section_at f.descriptor) (section_count f.descriptor)

-- ---- the rules of the image and its descriptor, true where one is broken

-- 3: "L, 32 to 16,777,216"
unfoldable pub length_broken : Fields → Bool
length_broken f = ltb f.length 32 || ltb 16777216 f.length

-- 5: "D + 16 > L − 32"
unfoldable pub offset_broken : Fields → Bool
offset_broken f = ltb (f.length - 32) (f.offset + 16)

-- 6: "signature differs"
unfoldable pub signature_broken : Fields → Bool
signature_broken f = not (eqb (number_at 4 f.descriptor 0) (number_at 4 signature 0))

-- 7: "version is not 1"
unfoldable pub version_broken : Fields → Bool
version_broken f = not (eqb (version f.descriptor) 1)

-- 8: "section count, descriptor length, or descriptor end is wrong": 1 to 32 sections, a length of 16 + 32 × sections,
-- and "the descriptor ends at or before L − 32"
unfoldable pub descriptor_broken : Fields → Bool
descriptor_broken f =
    let count = section_count f.descriptor in
    eqb count 0 || ltb 32 count
    || not (eqb (length_field f.descriptor) (16 + 32 * count))
    || ltb (f.length - 32) (f.offset + (16 + 32 * count))

-- rules 5 to 8 in the page's order
unfoldable pub descriptor_rules : Fields → List Rule
descriptor_rules f =
    rule 5 Nowhere (offset_broken f) ∷
    rule 6 Nowhere (signature_broken f) ∷
    rule 7 Nowhere (version_broken f) ∷
    rule 8 Nowhere (descriptor_broken f) ∷ []

-- where the descriptor is, or the first of these rules that is broken
unfoldable pub located : Fields → Result Located Refusal
located f = result_and (judge (descriptor_rules f)) (Ok (record { offset = f.offset; count = section_count f.descriptor }))
