-- How many pieces there are: of a record, by its kind, and of the records in order. Assumes nothing.
use mathlib.Core.Path.{◌≡◌, refl, sym, ap, ◌∙◌}
use mathlib.Core.Bool.{Bool, true, false}
use mathlib.Core.List.{List, [], ◌∷◌, ◌++◌, append-nil, append_assoc}
use Prim.Native.Nat.{ℕ, zero, suc, ◌+◌, ◌-◌, ◌*◌, ◌≤◌, ◌<◌}
use native.Mathlib.Omega.{arith}
use lib.Dec.{leb}
use lib.ListN.{length, length-append, drop}
use Rattle.verdict.specs.Rules.{pick}
use Rattle.verdict.proofs.Turns.{length-up_to}
use Rattle.memory.specs.declared.Record.{Record}
use Rattle.memory.specs.Map.{record_at, record_count, records, end}
use Rattle.tdvf.specs.declared.Section.{Section}
use Rattle.tdvf.proofs.Rest.{rest-none, rest_more}
use Rattle.handoff.specs.declared.Piece.{Piece}
use Rattle.handoff.specs.Pieces.{mapped_piece, piece_at, cut, most_pieces, pieces_of, pieces}

module _ (ss : List Section) (r : Record) where
  pub of_none : r.kind ≡ 0 → pieces_of ss r ≡ []
  unfolding pieces_of
  of_none h = rw h

  pub of-ram : r.kind ≡ 1 → pieces_of ss r ≡ cut (most_pieces ss) ss r.start (end r)
  unfolding pieces_of
  of-ram h = rw h

  pub of-firmware : r.kind ≡ 2 → pieces_of ss r ≡ []
  unfolding pieces_of
  of-firmware h = rw h

  pub of-mapped : 3 ≤ r.kind → pieces_of ss r ≡ mapped_piece r ∷ []
  unfolding pieces_of
  of-mapped h = let e : r.kind ≡ suc (suc (suc (r.kind - 3))) = omega arith in rw e

pub cut_most : (steps : ℕ) (ss : List Section) (at top : ℕ) → length (cut steps ss at top) ≤ steps
unfolding cut
cut_most zero ss at top = omega arith
cut_most (suc steps) ss at top = by (leb top at) (cut_most steps ss (at + (piece_at ss at top).length) top)
  where
    by : (b : Bool) → length (cut steps ss (at + (piece_at ss at top).length) top) ≤ steps
        → length (pick b [] (piece_at ss at top ∷ cut steps ss (at + (piece_at ss at top).length) top)) ≤ suc steps
    by true h = omega arith
    by false h = omega arith

pub of-most : (ss : List Section) (r : Record) → length (pieces_of ss r) ≤ most_pieces ss
of-most ss r = by r.kind refl
  where
    by : (k : ℕ) → r.kind ≡ k → length (pieces_of ss r) ≤ most_pieces ss
    by zero e = omega (arith, ap length (of_none ss r e))
    by (suc zero) e = omega (arith, ap length (of-ram ss r e), cut_most (most_pieces ss) ss r.start (end r))
    by (suc (suc zero)) e = omega (arith, ap length (of-firmware ss r e))
    by (suc (suc (suc k))) e = omega (arith, ap length (of-mapped ss r (omega arith)))

-- the records in order, one more
pub pieces_more : (ss : List Section) (rs : List Record) (r : Record) → pieces ss (rs ++ (r ∷ [])) ≡ pieces ss rs ++ pieces_of ss r
unfolding pieces
pieces_more ss [] r = append-nil (pieces_of ss r)
pieces_more ss (x ∷ rs) r =
    ap (λ (t : List Piece). pieces_of ss x ++ t) (pieces_more ss rs r) ∙ sym (append_assoc (pieces_of ss x) (pieces ss rs) (pieces_of ss r))

-- ---- the records from a place on

module _ (ss : List Section) (map : List ℕ) where
  pub records-over : (k : ℕ) → record_count map ≤ k → pieces ss (drop k (records map)) ≡ []
  unfolding pieces records
  records-over k h = ap (pieces ss) (rest-none (record_at map) (record_count map) k h)

  pub records_next : (k : ℕ) → k < record_count map
      → pieces ss (drop k (records map)) ≡ pieces_of ss (record_at map k) ++ pieces ss (drop (k + 1) (records map))
  unfolding pieces records
  records_next k h = ap (pieces ss) (rest_more (record_at map) (record_count map) k h)

pub records-length : (map : List ℕ) → length (records map) ≡ record_count map
unfolding records
records-length map = length-up_to (record_at map) (record_count map)

-- a coarse bound, by which no count wraps: proofs/Most has the page's
pub pieces-few : (ss : List Section) (rs : List Record) → length ss ≤ 32 → length (pieces ss rs) ≤ 65 * length rs
unfolding pieces
pieces-few ss [] h = omega arith
pieces-few ss (r ∷ rs) h = omega (arith, length-append (pieces_of ss r) (pieces ss rs), of-most ss r, pieces-few ss rs h)

-- the records from a place on give no more pieces than all
pub fewer : (ss : List Section) (rs : List Record) (k : ℕ) → length (pieces ss (drop k rs)) ≤ length (pieces ss rs)
unfolding pieces
fewer ss rs zero = omega arith
fewer ss [] (suc k) = omega arith
fewer ss (r ∷ rs) (suc k) = omega (arith, length-append (pieces_of ss r) (pieces ss rs), fewer ss rs k)

pub fewer-behind : (ps : List Piece) (ss : List Section) (rs : List Record) (k : ℕ) → ps ≡ []
    → length (ps ++ pieces ss (drop k rs)) ≤ length (pieces ss rs)
fewer-behind ps ss rs k e = omega (arith, length-append ps (pieces ss (drop k rs)), ap length e, fewer ss rs k)
