-- `handoff::MapPieces::next`: the goals that are answered by hand. Invariants.antt says why it meets its contract. Assumes nothing.
use mathlib.Core.Path.{◌≡◌, sym, ap, ◌∙◌}
use mathlib.Core.List.{List, [], ◌++◌}
use Prim.Native.Nat.{◌+◌, ◌≤◌, ◌<◌}
use native.Mathlib.Omega.{arith}
use lib.ListN.{drop}
use Rattle.memory.specs.declared.Record.{Record}
use Rattle.memory.specs.Map.{record_count, records}
use Rattle.handoff.specs.declared.Piece.{Piece}
use Rattle.handoff.specs.Pieces.{pieces_of, pieces}
use Rattle.handoff.proofs.Count.{records-over, records_next}
use Rattle.handoff.proofs.MapPiecesIterator.next.Goals as goal

pub returns-then-self-clause-steps : goal.returns-then-self-clause-steps
returns-then-self-clause-steps c =
    let l = c.loop-p in
    let s = l.self-inside in
    let ss = s.table.now in
    let rest : List Piece = pieces ss (drop s.next (records s.map.now)) in
    let end : record_count s.map.now ≤ s.next = omega arith in
    let over : rest ≡ [] = records-over ss s.map.now s.next end in (
      sym l.invariant.left ∙ ap (λ (ps : List Piece). ps ++ rest) c.in_default.ensures.steps.0 ∙ over,
      ap (λ (ps : List Piece). ps ++ rest) c.in_default.ensures.steps.1 ∙ over,
    )

pub loop-p-preserved : goal.loop-p-preserved
loop-p-preserved c =
    let l = c.loop-p in
    let s = l.self-inside in
    let ss = s.table.now in
    let h : s.next < record_count s.map.now = omega arith in
    record {
      left = ap (λ (ps : List Piece). ps ++ pieces ss (drop (s.next + 1) (records s.map.now)))
          (c.record_pieces-self-inside.ensures ∙ ap (λ (r : Record). pieces_of ss r) c.record_at.ensures)
          ∙ sym (records_next ss s.map.now s.next h)
          ∙ sym (ap (λ (ps : List Piece). ps ++ pieces ss (drop s.next (records s.map.now))) c.in_default.ensures.steps.0)
          ∙ l.invariant.left;
      whole_table = l.invariant.whole_table;
      ends_fit = l.invariant.ends_fit;
    }
