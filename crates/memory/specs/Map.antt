-- Page 01, "The memory map": records, the rules that a map keeps, and "lies wholly inside one map record of an allowed kind".
-- Ends are whole numbers. Bytes past the map's end read as 0.
-- Assumes nothing.
use Rattle.std.specs.Prelude.{Bool, false, ◌&&◌, ◌||◌, not, List, [], ◌∷◌, map as each, ℕ, zero, suc, ◌+◌, ◌*◌, ◌/◌, ◌%◌, ◌^◌, ◌≡◌, leb, ltb, eqb, length, Result, Ok, Err, MatchResult, is_ok, Option, None, Some}
use Rattle.wire.specs.Number.{number_at}
use Rattle.verdict.specs.declared.Place.{Place}
use Rattle.verdict.specs.declared.Place.TheVariants.{Nowhere}
use Rattle.verdict.specs.declared.Refusal.{Refusal}
use Rattle.verdict.specs.Refusal.{refusal_of}
use Rattle.verdict.specs.Turns.{in_turn, up_to}
use Rattle.verdict.specs.Rules.{Rule, Verdict, rule, pick}
use Rattle.memory.specs.declared.Record.{Record}
use Rattle.memory.specs.declared.Cause.{Cause}
use Rattle.memory.specs.declared.Cause.TheVariants as cause
use Rattle.memory.specs.declared.Fault.{Fault}
use Rattle.memory.specs.declared.Width.{Width}
use Rattle.memory.specs.declared.Width.TheVariants.{Bits48, Bits52}

-- ---- the records

-- "Records of 24 bytes, no header: start (8 bytes), length (8), kind (4), zero (4)": record i
unfoldable pub record_at : List ℕ → ℕ → Record
record_at map i =
    record {
      start = number_at 8 map (24 * i);
      length = number_at 8 map (24 * i + 8);
      kind = number_at 4 map (24 * i + 16);
      filler = number_at 4 map (24 * i + 20);
    }

-- how many records there are
abbrev pub record_count : List ℕ → ℕ
record_count map = length map / 24

unfoldable pub records : List ℕ → List Record
records map = up_to (record_at map) (record_count map)

-- a record's end, start plus length as a whole number
abbrev pub end : Record → ℕ
end r = r.start + r.length

-- ---- the rules of the map, true where one is broken

-- "There are 1 to 64 records", of 24 bytes each
unfoldable pub count_broken : List ℕ → Bool
count_broken map = not (eqb (length map % 24) 0) || eqb (record_count map) 0 || ltb 64 (record_count map)

-- "Start and length are multiples of 4,096 and the length is not 0"
unfoldable pub multiple_broken : Record → Bool
multiple_broken r = not (eqb (r.start % 4096) 0) || not (eqb (r.length % 4096) 0) || eqb r.length 0

-- the widths that a launch allows
unfoldable pub width_allowed : ℕ → Bool
width_allowed width = eqb width 48 || eqb width 52

-- how many bits a width has
unfoldable pub bits : Width → ℕ
bits Bits48 = 48
bits Bits52 = 52

-- what a number of bits gives: the width of so many where the number is allowed, and else refusal 2 of page 01, which names no place
abbrev pub Widens : ℕ → Result Width Refusal → Type 0
Widens n r = (is_ok r ≡ width_allowed n) × MatchResult r (λ w. bits w ≡ n) (λ e. e ≡ refusal_of 2 Nowhere)

-- the highest end that a record of this kind may have under an address width
unfoldable pub top : ℕ → ℕ → ℕ
top kind width = 2 ^ width

-- "Each record's end is at most 2 to the power of the address width"
unfoldable pub end_broken : ℕ → Record → Bool
end_broken width r = ltb (top r.kind width) (end r)

-- "Kinds: 1 RAM, 2 firmware, 3 MMIO", and four bytes of zero
unfoldable pub kind_broken : Record → Bool
kind_broken r = not (leb 1 r.kind && leb r.kind 3) || not (eqb r.filler 0)

-- "Each record starts at or after the end of the one before": at or after `before`, which is 0 for the first
unfoldable pub order_broken : ℕ → Record → Bool
order_broken before r = ltb r.start before

-- the end of the record before record i, or 0 for the first
unfoldable pub end_before : List ℕ → ℕ → ℕ
end_before map zero = 0
end_before map (suc i) = end (record_at map i)

-- ---- the rules as a row: the count first, then the records in turn

-- a rule of the map at a record: what is wrong where it is broken, and whether it is
pub record Tried : Type 0 where
  pub cause : Cause
  pub at : ℕ
  pub broken : Bool

abbrev pub tried : Cause → ℕ → Bool → Tried
tried c i b = record { cause = c; at = i; broken = b }

-- record i, which is r and follows a record that ends at `before`
unfoldable pub record_tried : ℕ → ℕ → Record → ℕ → List Tried
record_tried width before r i =
    tried cause.Multiple i (multiple_broken r) ∷
    tried cause.End i (end_broken width r) ∷
    tried cause.Kind i (kind_broken r) ∷
    tried cause.Order i (order_broken before r) ∷ []

unfoldable pub map_tried : ℕ → List ℕ → List Tried
map_tried width map =
    tried cause.Count 0 (count_broken map) ∷
    in_turn (λ i. record_tried width (end_before map i) (record_at map i) i) (record_count map)

-- a fault by its cause and its record
abbrev pub fault_at : Cause → ℕ → Fault
fault_at c i = record { cause = c; «record» = i }

-- what the row comes to: all are kept, or the first that is broken
unfoldable pub first_fault : List Tried → Result (Unit {0}) Fault
first_fault [] = Ok tt
first_fault (t ∷ ts) = let rest = first_fault ts in pick t.broken (Err (fault_at t.cause t.at)) rest

-- the number and the place that a cause at a record is answered with: page 01 calls each of them 4 and names no place
unfoldable pub cause_number : Cause → ℕ
cause_number cause.Count = 4
cause_number cause.Multiple = 4
cause_number cause.End = 4
cause_number cause.Kind = 4
cause_number cause.Order = 4

unfoldable pub cause_place : Cause → ℕ → Place
cause_place cause.Count i = Nowhere
cause_place cause.Multiple i = Nowhere
cause_place cause.End i = Nowhere
cause_place cause.Kind i = Nowhere
cause_place cause.Order i = Nowhere

-- the refusal that a fault is answered with
unfoldable pub fault_refusal : Fault → Refusal
fault_refusal f = refusal_of (cause_number f.cause) (cause_place f.cause f.«record»)

-- the verdict on a row that comes to it
abbrev pub fault_verdict : Result (Unit {0}) Fault → Verdict
fault_verdict (Ok u) = Ok tt
fault_verdict (Err f) = Err (fault_refusal f)

-- the map's part of the row of rules
abbrev pub as_rule : Tried → Rule
as_rule t = rule (cause_number t.cause) (cause_place t.cause t.at) t.broken

unfoldable pub map_rules : ℕ → List ℕ → List Rule
map_rules width map = each as_rule (map_tried width map)

-- ---- inside

-- the addresses from `address` on, `size` of them, lie in the record
unfoldable pub holds : Record → ℕ → ℕ → Bool
holds r address size = leb r.start address && leb (address + size) (end r)

-- "lies wholly inside one map record of an allowed kind; two touching records don't count as one"
unfoldable pub inside : (ℕ → Bool) → List Record → ℕ → ℕ → Bool
inside allowed [] address size = false
inside allowed (r ∷ rs) address size = allowed r.kind && holds r address size || inside allowed rs address size

-- "Map kinds allowed": RAM, and firmware too where it is allowed
unfoldable pub ram_or : Bool → ℕ → Bool
ram_or firmware kind = eqb kind 1 || firmware && eqb kind 2

-- which record of an allowed kind it is, the first of them, counted from i
unfoldable pub lies : (ℕ → Bool) → List Record → ℕ → ℕ → ℕ → Option ℕ
lies allowed [] i address size = None
lies allowed (r ∷ rs) i address size =
    let rest = lies allowed rs (suc i) address size in
    pick (allowed r.kind && holds r address size) (Some i) rest
