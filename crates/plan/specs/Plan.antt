-- Page 01, "The plan": one record for each page, sections in table order, pages ascending.
-- Assumes nothing.
use Rattle.std.specs.Prelude.{List, [], ◌∷◌, ◌++◌, ℕ, zero, suc, ◌+◌, ◌-◌, ◌*◌, ◌^◌, ◌≤◌, min, eqb}
use Rattle.wire.specs.Number.{le, number_at}
use Rattle.verdict.specs.Turns.{up_to}
use Rattle.verdict.specs.Rules.{pick}
use Rattle.tdvf.specs.declared.Section.{Section}
use Rattle.tdvf.specs.Section.{measured, page_count, end}
use Rattle.plan.specs.declared.Page.{Page}
use Rattle.plan.specs.declared.Source.{Source}

-- ---- the pages of a section

-- where a section's data comes from, by its type: the volumes' data is in the image; a TD HOB section's is the HOB list,
-- "from offset 0"; temporary memory has none
unfoldable pub source_of : ℕ → Section → Source
source_of handoff s = by_sort s.sort
  where
    by_sort : ℕ → Source
    by_sort zero = record { start = s.offset; amount = s.raw }
    by_sort (suc zero) = record { start = s.offset; amount = s.raw }
    by_sort (suc (suc zero)) = record { start = 0; amount = handoff }
    by_sort (suc (suc (suc t))) = record { start = 0; amount = 0 }

-- "of length the smaller of 4,096 and what raw data remains"
unfoldable pub data_length : Source → ℕ → ℕ
data_length d k = min 4096 (d.amount - 4096 * k)

-- "data offset + 4,096 × k"; "a data length of 0 has data offset 0"
unfoldable pub data_offset : Source → ℕ → ℕ
data_offset d k = pick (eqb (data_length d k) 0) 0 (d.start + 4096 * k)

-- page k of a section, where the HOB list is `handoff` bytes long
unfoldable pub page_of : ℕ → Section → ℕ → Page
page_of handoff s k =
    record {
      address = s.address + 4096 * k;
      offset = data_offset (source_of handoff s) k;
      length = data_length (source_of handoff s) k;
      sort = s.sort;
      measured = measured s;
    }

-- "pages ascending"
unfoldable pub pages_of : ℕ → Section → List Page
pages_of handoff s = up_to (page_of handoff s) (page_count s)

-- "Sections in table order"
unfoldable pub pages : ℕ → List Section → List Page
pages handoff [] = []
pages handoff (s ∷ ss) = pages_of handoff s ++ pages handoff ss

-- what the launch's rules keep of a section, so that the fields of its records hold their numbers
pub record Fits (s : Section) : Type 0 where
  -- "Each record's end is at most 2 to the power of the address width"
  pub low : end s ≤ 2 ^ 52
  -- "type above 3" is refused
  pub known : s.sort ≤ 3
  -- "Data offset plus raw size is at most L", and L at most 16,777,216
  pub inside : s.offset + s.raw ≤ 16777216

-- ---- the bytes

-- "Records of 16 bytes, no header, one for each page: address (8), data offset (4), data length (2), type (1), measured 0 or 1 (1)"
unfoldable pub page_bytes : Page → List ℕ
page_bytes p = le 8 p.address ++ (le 4 p.offset ++ (le 2 p.length ++ (le 1 p.sort ++ le 1 p.measured)))

unfoldable pub plan_bytes : List Page → List ℕ
plan_bytes [] = []
plan_bytes (p ∷ ps) = page_bytes p ++ plan_bytes ps

-- the record of page i of a plan's bytes; "records past the buffer's end read as zeros"
unfoldable pub page_at : List ℕ → ℕ → Page
page_at plan i =
    record {
      address = number_at 8 plan (16 * i);
      offset = number_at 4 plan (16 * i + 8);
      length = number_at 2 plan (16 * i + 12);
      sort = number_at 1 plan (16 * i + 14);
      measured = number_at 1 plan (16 * i + 15);
    }
