-- A map without a fault: the row of its rules record by record, as `check` tries it, and what is known of a map that keeps
-- every rule. Assumes nothing.
use mathlib.Core.Path.{◌≡◌, refl, sym, ap, subst, ◌∙◌}
use mathlib.Core.Bool.{true, false}
use mathlib.Core.List.{List}
use mathlib.Core.Logic.{◌↔◌}
use Prim.Native.Nat.{ℕ, zero, suc, ◌+◌, ◌*◌, ◌%◌, ◌^◌, ◌≤◌, ◌<◌}
use native.Mathlib.Decide.{ℕ_discrete}
use native.Mathlib.Numerals.{add-one}
use native.Mathlib.Omega.{arith}
use lib.ListN.{length}
use Rattle.std.specs.Prelude.{Ok, Err}
use Rattle.verdict.specs.Turns.{in_turn}
use Rattle.verdict.proofs.Turns.{turn-none}
use Rattle.memory.specs.declared.Record.{Record}
use Rattle.memory.specs.declared.Cause.TheVariants as cause
use Rattle.memory.specs.Map.{record_at, record_count, end, count_broken, width_allowed, top, end_before, Tried, fault_at, record_tried, map_tried, first_fault}
use Rattle.memory.proofs.First.{first-none, first-kept, first-broken, first-cons, turns_next, turns-stop, turns-each, turns-all}
use Rattle.memory.proofs.Broken.{Counted, Paged, Kinded, count_kept, multiple-kept, end_kept, kind-kept, order-kept, top-low}

-- ---- a record that keeps its rules

-- the record r behind one that ends at `before`
pub record KeptRecord (width before : ℕ) (r : Record) : Type 0 where
  pub start-pages : r.start % 4096 ≡ 0
  pub length-pages : r.length % 4096 ≡ 0
  pub some : 0 < r.length
  pub end_low : end r ≤ top r.kind width
  pub kind-low : 1 ≤ r.kind
  pub kind-high : r.kind ≤ 3
  pub filler-zero : r.filler ≡ 0
  pub behind : before ≤ r.start

pub kept_record : (width before : ℕ) (r : Record) (i : ℕ) → (first_fault (record_tried width before r i) ≡ Ok tt) ↔ KeptRecord width before r
unfolding record_tried
kept_record width before r i = (
  λ e.
      let one = first-cons _ _ e in
      let two = first-cons _ _ one.1 in
      let three = first-cons _ _ two.1 in
      let four = first-cons _ _ three.1 in
      let p : Paged r = (multiple-kept r).0 one.0 in
      let k : Kinded r = (kind-kept r).0 three.0 in
      record {
        start-pages = p.starts;
        length-pages = p.lengths;
        some = p.some;
        end_low = (end_kept width r).0 two.0;
        kind-low = k.low;
        kind-high = k.high;
        filler-zero = k.zero;
        behind = (order-kept before r).0 four.0;
      },
  λ k.
      first-kept _ _ ((multiple-kept r).1 (record { starts = k.start-pages; lengths = k.length-pages; some = k.some }))
      ∙ first-kept _ _ ((end_kept width r).1 k.end_low)
      ∙ first-kept _ _ ((kind-kept r).1 (record { low = k.kind-low; high = k.kind-high; zero = k.filler-zero }))
      ∙ first-kept _ _ ((order-kept before r).1 k.behind)
      ∙ first-none,
)

-- its end is far below 2 ^ 64
pub end_fits : (width before : ℕ) (r : Record) (i : ℕ) → width_allowed width ≡ true → first_fault (record_tried width before r i) ≡ Ok tt → end r ≤ 2 ^ 52
end_fits width before r i w e =
    let k : KeptRecord width before r = (kept_record width before r i).0 e in
    omega (arith, top-low r.kind width w)

-- ---- the end of the record before

pub before-none : (map : List ℕ) → end_before map 0 ≡ 0
unfolding end_before
before-none map = refl

pub before-next : (map : List ℕ) (i : ℕ) (r : Record) → r ≡ record_at map i → r.start + r.length ≡ end_before map (i + 1)
unfolding end_before
before-next map i r e = rw (add-one i, e)

-- ---- the rules record by record

-- the rules of record i
abbrev pub row : ℕ → List ℕ → ℕ → List Tried
row width map i = record_tried width (end_before map i) (record_at map i) i

-- none of the first n records has a fault
unfoldable pub Passed : ℕ → List ℕ → ℕ → Type 0
Passed width map n = first_fault (in_turn (row width map) n) ≡ Ok tt

module _ (width : ℕ) (map : List ℕ) where
  pub count-fault : count_broken map ≡ true → first_fault (map_tried width map) ≡ Err (fault_at cause.Count 0)
  unfolding map_tried
  count-fault e = first-broken _ _ e

  pub pass-none : Passed width map 0
  unfolding Passed
  pass-none = ap first_fault (turn-none (row width map)) ∙ first-none

  module _ (i before : ℕ) (r : Record) (b : before ≡ end_before map i) (e : r ≡ record_at map i) (p : Passed width map i) where
    same : first_fault (record_tried width before r i) ≡ first_fault (row width map i)
    same = cc

    pub pass-next : first_fault (record_tried width before r i) ≡ Ok tt → Passed width map (i + 1)
    unfolding Passed
    pass-next k = turns_next (row width map) i p ∙ sym same ∙ k

    -- the first record with a fault is the answer
    pub pass-stop : count_broken map ≡ false → i < record_count map → (first_fault (record_tried width before r i) ≡ Ok tt → ⊥) → first_fault (record_tried width before r i) ≡ first_fault (map_tried width map)
    unfolding Passed map_tried
    pass-stop c l h =
        same ∙ sym (first-kept _ _ c ∙ turns-stop (row width map) i (record_count map) p l (λ q. h (same ∙ q)))

  pub pass-end : count_broken map ≡ false → (i : ℕ) → i ≡ record_count map → Passed width map i → first_fault (map_tried width map) ≡ Ok tt
  unfolding Passed map_tried
  pass-end c i e p = first-kept _ _ c ∙ ap (λ (n : ℕ). first_fault (in_turn (row width map) n)) (sym e) ∙ p

-- ---- a map that keeps its rules

pub record KeptMap (width : ℕ) (map : List ℕ) : Type 0 where
  pub count_low : 1 ≤ record_count map
  pub count-high : record_count map ≤ 64
  pub whole : length map ≡ 24 * record_count map
  pub each : (i : ℕ) → i < record_count map → KeptRecord width (end_before map i) (record_at map i)

-- a map has no fault exactly if it is so
pub kept-exactly : (width : ℕ) (map : List ℕ) → (first_fault (map_tried width map) ≡ Ok tt) ↔ KeptMap width map
unfolding map_tried
kept-exactly width map = (
  λ e.
      let both = first-cons _ _ e in
      let c : Counted map = (count_kept map).0 both.0 in
      record {
        count_low = c.low;
        count-high = c.high;
        whole = c.whole;
        each = λ i l. (kept_record width (end_before map i) (record_at map i) i).0 (turns-each (row width map) (record_count map) i both.1 l);
      },
  λ k.
      first-kept _ _ ((count_kept map).1 (record { low = k.count_low; high = k.count-high; whole = k.whole }))
      ∙ turns-all (row width map) (record_count map) (λ i l. (kept_record width (end_before map i) (record_at map i) i).1 (k.each i l)),
)

-- the inversion that callers cite
pub kept_map : (width : ℕ) (map : List ℕ) → first_fault (map_tried width map) ≡ Ok tt → KeptMap width map
kept_map width map = (kept-exactly width map).0

-- the records stand one behind another, and none shares an address with another
pub kept-apart : (width : ℕ) (map : List ℕ) → KeptMap width map → (i j : ℕ) → i < j → j < record_count map → end (record_at map i) ≤ (record_at map j).start
unfolding end_before
kept-apart width map k i zero l h = absurd (omega arith)
kept-apart width map k i (suc j) l h =
    let behind : end (record_at map j) ≤ (record_at map (suc j)).start = (k.each (suc j) h).behind in
    step behind (λ (b : i < j). kept-apart width map k i j b (omega arith)) (ℕ_discrete i j)
  where
    step : end (record_at map j) ≤ (record_at map (suc j)).start → (i < j → end (record_at map i) ≤ (record_at map j).start) → Dec (i ≡ j) → end (record_at map i) ≤ (record_at map (suc j)).start
    step behind below (yes e) = subst (λ (n : ℕ). end (record_at map n) ≤ (record_at map (suc j)).start) (sym e) behind
    step behind below (no n) = let b : end (record_at map i) ≤ (record_at map j).start = below (omega arith) in omega arith
