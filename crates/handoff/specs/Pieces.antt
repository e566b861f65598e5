-- Page 01, "The HOB list": the pieces that the map's records are cut into.
-- Assumes nothing.
use Rattle.std.specs.Prelude.{◌&&◌, List, [], ◌∷◌, ◌++◌, ℕ, zero, suc, ◌+◌, ◌-◌, ◌*◌, ◌^◌, ◌≤◌, ◌<◌, leb, ltb, eqb}
use Rattle.std.proofs.Math.ListN as list
use Rattle.verdict.specs.Rules.{pick}
use Rattle.memory.specs.declared.Record.{Record}
use Rattle.memory.specs.Map.{record_at, record_count, end}
use Rattle.tdvf.specs.declared.Section.{Section}
use Rattle.handoff.specs.declared.Resource.{Resource}
use Rattle.handoff.specs.declared.Resource.TheVariants.{Memory, Mapped, Unaccepted}
use Rattle.handoff.specs.declared.Piece.{Piece}
use Rattle.handoff.specs.declared.Next.{Next}

-- the page's resource type and attributes of what a piece is
unfoldable pub resource_type : Resource → ℕ
resource_type Memory = 0
resource_type Mapped = 1
resource_type Unaccepted = 7

unfoldable pub resource_attributes : Resource → ℕ
resource_attributes Memory = 7
resource_attributes Mapped = 0x403
resource_attributes Unaccepted = 7

-- a piece in the page's numbers: "resource type (4), attributes (4), start (8), length (8)"
abbrev pub piece_numbers : Piece → List ℕ
piece_numbers p = resource_type p.resource ∷ resource_attributes p.resource ∷ p.start ∷ p.length ∷ []

-- "Section pieces have resource type 0, runs have type 7 (unaccepted), both with attributes 7"
abbrev pub section_piece : ℕ → ℕ → Piece
section_piece start size = record { resource = Memory; start = start; length = size }

abbrev pub run_piece : ℕ → ℕ → Piece
run_piece start size = record { resource = Unaccepted; start = start; length = size }

-- "An MMIO record is one piece, type 1, attributes 0x403"
abbrev pub mapped_piece : Record → Piece
mapped_piece r = record { resource = Mapped; start = r.start; length = r.length }

-- the lower of the two starts, where the section starts at `at` or above
unfoldable pub lower_of : Next → Section → ℕ → Next
lower_of next s at =
    pick (leb at s.address && ltb s.address next.start) (record { start = s.address; size = s.size }) next

-- the section with the lowest start at `at` or above and below `top`; where there is none, a start of `top` and no size
unfoldable pub next_of : List Section → ℕ → ℕ → Next
next_of [] at top = record { start = top; size = 0 }
next_of (s ∷ ss) at top = lower_of (next_of ss at top) s at

-- the piece at `at`: the section that starts there, or else the run up to the next start
unfoldable pub piece_at : List Section → ℕ → ℕ → Piece
piece_at ss at top =
    let next = next_of ss at top in
    pick (eqb next.start at) (section_piece at next.size) (run_piece at (next.start - at))

-- "one piece for each section in it and one for each longest run without a section, ascending": the pieces from `at` up to `top`.
-- `steps` bounds how many there can be
unfoldable pub cut : ℕ → List Section → ℕ → ℕ → List Piece
cut zero ss at top = []
cut (suc steps) ss at top =
    let p = piece_at ss at top in
    pick (leb top at) [] (p ∷ cut steps ss (at + p.length) top)

-- a record of RAM has at most a piece for each section, and a run before each and behind the last
abbrev pub most_pieces : List Section → ℕ
most_pieces ss = 2 * list.length ss + 1

-- the pieces of a record, by its kind: 1 RAM, 2 firmware ("Firmware records give none"), 3 MMIO
unfoldable pub pieces_of : List Section → Record → List Piece
pieces_of ss r = by_kind r.kind
  where
    by_kind : ℕ → List Piece
    by_kind zero = []
    by_kind (suc zero) = cut (most_pieces ss) ss r.start (end r)
    by_kind (suc (suc zero)) = []
    by_kind (suc (suc (suc k))) = mapped_piece r ∷ []

-- "Map records in order"
unfoldable pub pieces : List Section → List Record → List Piece
pieces ss [] = []
pieces ss (r ∷ rs) = pieces_of ss r ++ pieces ss rs

-- what a map that breaks no rule of its own has, as far as counting its pieces asks it: at most 64 records, whose ends fit 64 bits
pub record EndsFit (map : List ℕ) : Type 0 where
  pub few : record_count map ≤ 64
  pub low : (i : ℕ) → i < record_count map → end (record_at map i) < 2 ^ 64
