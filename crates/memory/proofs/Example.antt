-- The definitions of the map computed, on both sides of each rule and at the places where an error looks right. Assumes nothing.
use mathlib.Core.Path.{◌≡◌, refl}
use mathlib.Core.Bool.{Bool, true, false}
use mathlib.Core.List.{List, [], ◌∷◌, ◌++◌, map as each}
use Prim.Native.Nat.{ℕ, ◌-◌, ◌*◌, ◌^◌}
use lib.Dec.{eqb}
use lib.ListN.{replicate}
use Rattle.std.specs.Prelude.{Result, Ok, Err, None, Some}
use Rattle.wire.specs.Number.{le, number_at}
use Rattle.verdict.specs.Turns.{in_turn}
use Rattle.memory.specs.declared.Record.{Record}
use Rattle.memory.specs.declared.Cause.TheVariants as cause
use Rattle.memory.specs.declared.Fault.{Fault}
use Rattle.memory.specs.Map.{record_at, records, count_broken, multiple_broken, top, end_broken, kind_broken, order_broken, end_before, Tried, fault_at, record_tried, map_tried, first_fault, holds, inside, ram_or, lies}

-- ---- ends

-- a record of two pages whose end, taken in 64 bits, would be 4,096
pub high : Record
high = record { start = 2 ^ 64 - 4096; length = 8192; kind = 1; filler = 0 }

pub high-is-broken : end_broken 52 high ≡ true
unfolding high end_broken top
high-is-broken = refl

-- a record may end at the bound itself
pub last : Record
last = record { start = 2 ^ 48 - 4096; length = 4096; kind = 1; filler = 0 }

pub last-is-kept : end_broken 48 last ≡ false
unfolding last end_broken top
last-is-kept = refl

-- ---- each rule by itself: which rules a map breaks, the count first and then those of each record

-- the 24 bytes of a record
pub bytes : ℕ → ℕ → ℕ → ℕ → List ℕ
unfolding le
bytes start size kind filler = le 8 start ++ le 8 size ++ le 4 kind ++ le 4 filler

pub broken : ℕ → List ℕ → List Bool
unfolding number_at record_at count_broken multiple_broken top end_broken kind_broken order_broken end_before record_tried map_tried in_turn
broken width m = each (λ (t : Tried). t.broken) (map_tried width m)

pub kept : broken 48 (bytes 0x1000 0x1000 1 0) ≡ false ∷ false ∷ false ∷ false ∷ false ∷ []
unfolding broken bytes
kept = refl

pub start-in-a-page : broken 48 (bytes 0x800 0x1000 1 0) ≡ false ∷ true ∷ false ∷ false ∷ false ∷ []
unfolding broken bytes
start-in-a-page = refl

pub half-a-page : broken 48 (bytes 0x1000 0x800 1 0) ≡ false ∷ true ∷ false ∷ false ∷ false ∷ []
unfolding broken bytes
half-a-page = refl

pub no-page : broken 48 (bytes 0x1000 0 1 0) ≡ false ∷ true ∷ false ∷ false ∷ false ∷ []
unfolding broken bytes
no-page = refl

-- one page above 2 ^ 48, which a width of 52 allows
pub above-48 : broken 48 (bytes (2 ^ 48) 0x1000 1 0) ≡ false ∷ false ∷ true ∷ false ∷ false ∷ []
unfolding broken bytes
above-48 = refl

pub below-52 : broken 52 (bytes (2 ^ 48) 0x1000 1 0) ≡ false ∷ false ∷ false ∷ false ∷ false ∷ []
unfolding broken bytes
below-52 = refl

pub kind_0 : broken 48 (bytes 0 0x1000 0 0) ≡ false ∷ false ∷ false ∷ true ∷ false ∷ []
unfolding broken bytes
kind_0 = refl

pub kind-4 : broken 48 (bytes 0 0x1000 4 0) ≡ false ∷ false ∷ false ∷ true ∷ false ∷ []
unfolding broken bytes
kind-4 = refl

pub filler-1 : broken 48 (bytes 0 0x1000 1 1) ≡ false ∷ false ∷ false ∷ true ∷ false ∷ []
unfolding broken bytes
filler-1 = refl

-- two pages, and a record that starts at the second of them
pub too-early : broken 48 (bytes 0 0x2000 1 0 ++ bytes 0x1000 0x1000 1 0) ≡ replicate 8 false ++ true ∷ []
unfolding broken bytes
too-early = refl

-- ---- the count

pub empty-is-broken : count_broken [] ≡ true
unfolding count_broken
empty-is-broken = refl

pub bytes-23 : count_broken (replicate 23 0) ≡ true
unfolding count_broken
bytes-23 = refl

pub records-64 : count_broken (replicate (24 * 64) 0) ≡ false
unfolding count_broken
records-64 = refl

pub records-65 : count_broken (replicate (24 * 65) 0) ≡ true
unfolding count_broken
records-65 = refl

-- ---- the first fault

pub answer : ℕ → List ℕ → Result (Unit {0}) Fault
unfolding broken first_fault
answer width m = first_fault (map_tried width m)

-- touching records of all three kinds
pub three-kinds : answer 48 (bytes 0 0x1000 1 0 ++ bytes 0x1000 0x1000 2 0 ++ bytes 0x2000 0x1000 3 0) ≡ Ok tt
unfolding answer bytes
three-kinds = refl

-- the kind of record 0 comes before the start of record 1
pub first-record : answer 48 (bytes 0 0x1000 4 0 ++ bytes 0x1800 0x1000 1 0) ≡ Err (fault_at cause.Kind 0)
unfolding answer bytes
first-record = refl

-- and of one record the start before the kind
pub first-rule : answer 48 (bytes 0 0x1000 1 0 ++ bytes 0x1800 0x1000 4 0) ≡ Err (fault_at cause.Multiple 1)
unfolding answer bytes
first-rule = refl

-- ---- inside

-- two touching records of RAM, of 0x1000 bytes each
pub touching : List ℕ
unfolding bytes
touching = bytes 0 0x1000 1 0 ++ bytes 0x1000 0x1000 1 0

pub touching-order : order_broken (end_before touching 1) (record_at touching 1) ≡ false
unfolding touching number_at record_at order_broken end_before
touching-order = refl

-- what lies in one of them is inside, and what lies in both is not: "two touching records don't count as one"
pub one_holds : inside (eqb 1) (records touching) 0x1000 0x1000 ≡ true
unfolding touching number_at record_at records in_turn holds inside
one_holds = refl

pub both-do-not : inside (eqb 1) (records touching) 0 0x2000 ≡ false
unfolding touching number_at record_at records in_turn holds inside
both-do-not = refl

-- RAM, then firmware: a page of firmware is inside only where firmware is allowed
pub mixed : List ℕ
unfolding bytes
mixed = bytes 0 0x10000 1 0 ++ bytes 0xFFFFF000 0x1000 2 0

pub firmware-is-outside : lies (ram_or false) (records mixed) 0 0xFFFFF000 0x1000 ≡ None
unfolding mixed number_at record_at records in_turn holds ram_or lies
firmware-is-outside = refl

pub firmware-is-in-1 : lies (ram_or true) (records mixed) 0 0xFFFFF000 0x1000 ≡ Some 1
unfolding mixed number_at record_at records in_turn holds ram_or lies
firmware-is-in-1 = refl

pub firmware-not-inside : inside (ram_or false) (records mixed) 0xFFFFF000 0x1000 ≡ false
unfolding mixed number_at record_at records in_turn holds ram_or inside
firmware-not-inside = refl

pub firmware-inside : inside (ram_or true) (records mixed) 0xFFFFF000 0x1000 ≡ true
unfolding mixed number_at record_at records in_turn holds ram_or inside
firmware-inside = refl

-- RAM is inside either way, up to the record's last byte and not a byte further
pub ram-is-in-0 : lies (ram_or false) (records mixed) 0 0x1000 0xF000 ≡ Some 0
unfolding mixed number_at record_at records in_turn holds ram_or lies
ram-is-in-0 = refl

pub ram-to-the-end : lies (ram_or true) (records mixed) 0 0x1000 0xF001 ≡ None
unfolding mixed number_at record_at records in_turn holds ram_or lies
ram-to-the-end = refl

-- addresses whose end, taken in 64 bits, would be 4,096
pub wide : Record
wide = record { start = 0; length = 2 ^ 52; kind = 1; filler = 0 }

pub wrapped-is-outside : lies (ram_or false) (wide ∷ []) 0 (2 ^ 64 - 4096) 8192 ≡ None
unfolding wide holds ram_or lies
wrapped-is-outside = refl

pub wrapped-not-inside : inside (ram_or false) (wide ∷ []) (2 ^ 64 - 4096) 8192 ≡ false
unfolding wide holds ram_or inside
wrapped-not-inside = refl
