-- Page 01, "A launch in full" and "Either side of each line": the worked launch, and the starred cases in one list.
-- Assumes nothing.
use Rattle.std.specs.Prelude.{◌≡◌, List, [], ◌∷◌, ◌++◌, ℕ, ◌+◌, ◌*◌, ◌^◌, take, replicate}
use Rattle.wire.specs.Number.{le}
use Rattle.verdict.specs.declared.Place.{Place}
use Rattle.verdict.specs.declared.Place.TheVariants.{Nowhere, Section}
use Rattle.verdict.specs.Refusal as of
use Rattle.verdict.specs.Rules.{pick}
use Rattle.verdict.specs.Turns.{in_turn}
use Rattle.tdvf.specs.Image.{fields_of, signature}
use Rattle.plan.specs.declared.Page.{Page}
use Rattle.launch.specs.Host.{Host}
use Rattle.launch.specs.Launch.{page_list, accepted, answer}

-- ---- the parts of the worked launch

-- a section's 32 bytes: offset, raw, address, size, type, attributes
unfoldable pub section_bytes : ℕ → ℕ → ℕ → ℕ → ℕ → ℕ → List ℕ
section_bytes offset raw address size sort attributes =
    le 4 offset ++ le 4 raw ++ le 8 address ++ le 8 size ++ le 4 sort ++ le 4 attributes

-- a descriptor of n sections
unfoldable pub descriptor_bytes : ℕ → List ℕ → List ℕ
descriptor_bytes n sections = signature ++ le 4 (16 + 32 * n) ++ le 4 1 ++ le 4 n ++ sections

-- "Image of 4,096 bytes": zeros, but for the descriptor at D and the four bytes at 4,064 that hold D
unfoldable pub image_of : ℕ → List ℕ → List ℕ
image_of D descriptor = take 4064 (replicate D 0 ++ (descriptor ++ replicate 4064 0)) ++ (le 4 D ++ replicate 28 0)

-- a map record's 24 bytes: start, length, kind
unfoldable pub record_bytes : ℕ → ℕ → ℕ → List ℕ
record_bytes start size kind = le 8 start ++ le 8 size ++ le 4 kind ++ le 4 0

-- "Sections": the boot volume, the TD HOB and temporary memory
unfoldable pub boot : List ℕ
boot = section_bytes 0 4096 0xFFFFF000 0x1000 0 1

unfoldable pub hob : List ℕ
hob = section_bytes 0 0 0x9000 0x1000 2 0

unfoldable pub temporary : List ℕ
temporary = section_bytes 0 0 0xA000 0x2000 3 0

unfoldable pub image : List ℕ
image = image_of 3952 (descriptor_bytes 3 (boot ++ hob ++ temporary))

-- "Map: 0, length 0x10000, RAM; 0xFFFFF000, length 0x1000, firmware"
unfoldable pub ram : List ℕ
ram = record_bytes 0 0x10000 1

unfoldable pub firmware : List ℕ
firmware = record_bytes 0xFFFFF000 0x1000 2

-- "Width 48", and the smallest buffers
unfoldable pub host_of : List ℕ → ℕ → Host
host_of map width = record { map = map; width = width; plan = 65536; handoff = 8192 }

unfoldable pub host : Host
host = host_of (ram ++ firmware) 48

-- ---- the cases

-- what is told of a launch: the refusal's number and place, or 0; the counts of pages and blocks, and the first page's data length
pub record Told : Type 0 where
  pub number : ℕ
  pub place : Place
  pub pages : ℕ
  pub blocks : ℕ
  pub first : ℕ

abbrev pub accepts : ℕ → ℕ → ℕ → Told
accepts p b d = record { number = 0; place = Nowhere; pages = p; blocks = b; first = d }

abbrev pub refuses : ℕ → Place → Told
refuses n p = record { number = n; place = p; pages = 0; blocks = 0; first = 0 }

abbrev first_data : List Page → ℕ
first_data [] = 0
first_data (p ∷ ps) = p.length

unfoldable pub told : Host → List ℕ → Told
told h i =
    let a = answer h i in
    record {
      number = of.number a.refusal;
      place = of.place a.refusal;
      pages = a.pages;
      blocks = a.blocks;
      first = first_data (pick (accepted h i) (page_list h (fields_of i)) []);
    }

pub record Case : Type 0 where
  pub given : Host
  pub of : List ℕ
  pub tells : Told

abbrev case : Host → List ℕ → Told → Case
case h i t = record { given = h; of = i; tells = t }

-- an image of three sections, with another boot volume, TD HOB or temporary memory
abbrev three : List ℕ → List ℕ → List ℕ → List ℕ
three s₀ s₁ s₂ = image_of 3952 (descriptor_bytes 3 (s₀ ++ s₁ ++ s₂))

-- "From that launch, changing one thing (proved: marked *)"
unfoldable pub starred : List Case
starred =
    -- "Unchanged: 4 pages, 52 blocks"
    case host image (accepts 4 52 4096) ∷
    -- "Empty image: 3", "L = 32: 5", "Empty map: 4"
    case host [] (refuses 3 Nowhere) ∷
    case host (take 32 image) (refuses 5 Nowhere) ∷
    case (host_of [] 48) image (refuses 4 Nowhere) ∷
    -- "A three-section descriptor at 3,953: 8; at 3,952: accepted"
    case host (image_of 3953 (descriptor_bytes 3 (boot ++ hob ++ temporary))) (refuses 8 Nowhere) ∷
    case host (image_of 3952 (descriptor_bytes 3 (boot ++ hob ++ temporary))) (accepts 4 52 4096) ∷
    -- "Width 50: 2"
    case (host_of (ram ++ firmware) 50) image (refuses 2 Nowhere) ∷
    -- "RAM record ending at 2^48 (with the firmware record left out): no refusal 4; ending 4,096 later: 4"
    case (host_of (record_bytes 0 (2 ^ 48) 1) 48) image (accepts 4 52 4096) ∷
    case (host_of (record_bytes 0 (2 ^ 48 + 4096) 1) 48) image (refuses 4 Nowhere) ∷
    -- "BFV raw size 4,097: 12 for section 0. Raw size 1: accepted, data length 1, still 52 blocks"
    case host (three (section_bytes 0 4097 0xFFFFF000 0x1000 0 1) hob temporary) (refuses 12 (Section 0)) ∷
    case host (three (section_bytes 0 1 0xFFFFF000 0x1000 0 1) hob temporary) (accepts 4 52 1) ∷
    -- "Temporary memory at 0x9000: 15 for section 2; at 0xF000: 14"
    case host (three boot hob (section_bytes 0 0 0x9000 0x2000 3 0)) (refuses 15 (Section 2)) ∷
    case host (three boot hob (section_bytes 0 0 0xF000 0x2000 3 0)) (refuses 14 (Section 2)) ∷
    -- "BFV attributes 0: 10 for section 0"
    case host (three (section_bytes 0 4096 0xFFFFF000 0x1000 0 0) hob temporary) (refuses 10 (Section 0)) ∷
    -- "A fourth section, a second TD HOB of 0x1000 at 0xC000, with D = 3,920: 17"
    case host (image_of 3920 (descriptor_bytes 4 (boot ++ hob ++ temporary ++ section_bytes 0 0 0xC000 0x1000 2 0))) (refuses 17 Nowhere) ∷ []

-- n records of MMIO of a page each, two pages apart, from `at` on
abbrev mapped : ℕ → ℕ → List ℕ
mapped at n = in_turn (λ k. record_bytes (at + 0x2000 * k) 0x1000 3) n

-- and some that the page does not star
unfoldable pub further : List Case
further =
    -- rule 1: each buffer one byte short, and rules 1 and 2 both broken
    case (record { map = ram ++ firmware; width = 48; plan = 65535; handoff = 8192 }) image (refuses 1 Nowhere) ∷
    case (record { map = ram ++ firmware; width = 48; plan = 65536; handoff = 8191 }) image (refuses 1 Nowhere) ∷
    case (record { map = ram ++ firmware; width = 50; plan = 0; handoff = 8192 }) image (refuses 1 Nowhere) ∷
    -- longer buffers
    case (record { map = ram ++ firmware; width = 52; plan = 70001; handoff = 9999 }) image (accepts 4 52 4096) ∷
    -- "Signature wrong and version wrong: 6": the descriptor's start is one byte early
    case host (image_of 3951 (0 ∷ descriptor_bytes 3 (boot ++ hob ++ temporary))) (refuses 6 Nowhere) ∷
    -- "they may share image bytes": a second boot volume with the same data
    case host (image_of 3920 (descriptor_bytes 4 (boot ++ hob ++ temporary ++ section_bytes 0 4096 0x1000 0x1000 0 1))) (accepts 5 101 4096) ∷
    -- "rules 16 to 19 come after all sections": no boot volume, and section 1 over section 0
    case host (image_of 3984 (descriptor_bytes 2 (hob ++ section_bytes 0 0 0x9000 0x1000 3 0))) (refuses 15 (Section 1)) ∷
    case host (image_of 3984 (descriptor_bytes 2 (hob ++ temporary))) (refuses 16 Nowhere) ∷
    -- "HOB list longer than the TD HOB section's memory size": 43 pieces of RAM and 41 of MMIO are 4,096 bytes, and one more is too long
    case (host_of (large ++ mapped 0x200000 41 ++ firmware) 48) many (accepts 22 70 4096) ∷
    case (host_of (large ++ mapped 0x200000 42 ++ firmware) 48) many (refuses 19 Nowhere) ∷ []
  where
    large : List ℕ
    large = record_bytes 0 0x100000 1

    -- twenty pages of temporary memory, two pages apart
    many : List ℕ
    many = image_of 3344 (descriptor_bytes 22 (boot ++ hob ++ in_turn (λ k. section_bytes 0 0 (0x10000 + 0x2000 * k) 0x1000 3 0) 20))

-- every case tells what it says
abbrev pub Holds : List Case → Type 0
Holds [] = Unit
Holds (c ∷ cs) = (told c.given c.of ≡ c.tells) × Holds cs
