-- Page 01, "A launch in full": the text of an answer, as ASCII codes. Assumes nothing.
use Rattle.std.specs.Prelude.{Option, List, [], ◌∷◌, ◌++◌, ℕ, zero, suc, ◌+◌, ◌/◌, ◌%◌, ltb}
use Rattle.verdict.specs.Rules.{pick}
use Rattle.verdict.specs.declared.Place.{Place}
use Rattle.verdict.specs.declared.Place.TheVariants.{Nowhere, Section, Record}
use Rattle.verdict.specs.declared.Refusal.{Refusal}
use Rattle.verdict.specs.Refusal.{number, place}
use Rattle.plan.specs.declared.Page.{Page}

-- ---- numbers

-- the code of the last decimal digit of v: 48 is "0"
abbrev pub last_digit : ℕ → ℕ
last_digit v = 48 + v % 10

-- the decimal digits of v, the highest first, none of a number that is 0; `steps` bounds how many there can be
unfoldable pub within : ℕ → ℕ → List ℕ
within zero v = []
within (suc steps) zero = []
within (suc steps) (suc v) = within steps (suc v / 10) ++ (last_digit (suc v) ∷ [])

-- the same of every v, which has no more than v digits; so none of them is a leading zero
unfoldable pub leading : ℕ → List ℕ
leading v = within v v

-- v in decimal digits with no leading zero: the last digit always stands, so 0 is "0"
unfoldable pub decimal : ℕ → List ℕ
decimal v = leading (v / 10) ++ (last_digit v ∷ [])

-- the code of the hexadecimal digit d, below 16: 48 is "0", and 87 + 10 is "a"
abbrev pub hex_digit : ℕ → ℕ
hex_digit d = pick (ltb d 10) (48 + d) (87 + d)

-- the last n digits of v in a base up to 16, the highest first, with zeros in front
unfoldable pub digits : ℕ → ℕ → ℕ → List ℕ
digits base zero v = []
digits base (suc n) v = digits base n (v / base) ++ (hex_digit (v % base) ∷ [])

-- the last n hexadecimal digits of v
abbrev pub hexadecimal : ℕ → ℕ → List ℕ
hexadecimal n v = digits 16 n v

-- ---- parts of a line

-- a label, and v behind it
unfoldable pub labelled : List ℕ → ℕ → List ℕ
labelled label v = label ++ decimal v

-- the end of a line
unfoldable pub newline : List ℕ
newline = 10 ∷ []

-- ---- a refusal

-- "refused "
abbrev pub refused_label : List ℕ
refused_label = 0x72 ∷ 0x65 ∷ 0x66 ∷ 0x75 ∷ 0x73 ∷ 0x65 ∷ 0x64 ∷ 0x20 ∷ []

-- " section "
abbrev pub section_label : List ℕ
section_label = 0x20 ∷ 0x73 ∷ 0x65 ∷ 0x63 ∷ 0x74 ∷ 0x69 ∷ 0x6F ∷ 0x6E ∷ 0x20 ∷ []

-- " record "
abbrev pub record_label : List ℕ
record_label = 0x20 ∷ 0x72 ∷ 0x65 ∷ 0x63 ∷ 0x6F ∷ 0x72 ∷ 0x64 ∷ 0x20 ∷ []

-- "or `refused 5` where no place is named": nothing, or a space, what is counted, a space and its index
abbrev pub place_text : Place → List ℕ
place_text Nowhere = []
place_text (Section k) = labelled section_label k
place_text (Record k) = labelled record_label k

-- "A refusal prints `refused 13 section 2`", and a newline
abbrev pub refusal_text : Option Refusal → List ℕ
refusal_text r = labelled refused_label (number r) ++ (place_text (place r) ++ newline)

-- ---- an accepted launch

-- "pages "
abbrev pub pages_label : List ℕ
pages_label = 0x70 ∷ 0x61 ∷ 0x67 ∷ 0x65 ∷ 0x73 ∷ 0x20 ∷ []

-- " hob "
abbrev pub hob_label : List ℕ
hob_label = 0x20 ∷ 0x68 ∷ 0x6F ∷ 0x62 ∷ 0x20 ∷ []

-- " blocks "
abbrev pub blocks_label : List ℕ
blocks_label = 0x20 ∷ 0x62 ∷ 0x6C ∷ 0x6F ∷ 0x63 ∷ 0x6B ∷ 0x73 ∷ 0x20 ∷ []

-- "Line 1: pages, HOB bytes, blocks", as in `pages 4 hob 256 blocks 52`, and a newline
abbrev pub summary_text : ℕ → ℕ → ℕ → List ℕ
summary_text pages handoff blocks = labelled pages_label pages ++ (labelled hob_label handoff ++ (labelled blocks_label blocks ++ newline))

-- a space, and v behind it
abbrev pub spaced : ℕ → List ℕ
spaced v = labelled (0x20 ∷ []) v

-- "Then address in 16 hex digits, data offset, data length, type, measured", as in `00000000fffff000 0 4096 0 1`, and a newline
abbrev pub page_text : Page → List ℕ
page_text p =
    hexadecimal 16 p.address ++ (spaced p.offset ++ (spaced p.length ++ (spaced p.sort ++ (spaced p.measured ++ newline))))

-- each byte in two hexadecimal digits, one byte behind the other
unfoldable pub bytes_text : List ℕ → List ℕ
bytes_text [] = []
bytes_text (b ∷ bs) = hexadecimal 2 b ++ bytes_text bs

-- the measurement, and a newline
abbrev pub measurement_text : List ℕ → List ℕ
measurement_text m = bytes_text m ++ newline
