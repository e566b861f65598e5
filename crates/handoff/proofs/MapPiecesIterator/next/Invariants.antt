-- `handoff::MapPieces::next` meets its contract. At each turn what is left is what was left at first: a record that gives no more pieces is passed,
-- and the next one's pieces come in its place. Assumes nothing.
use mathlib.Core.Path.{◌≡◌}
use mathlib.Core.List.{◌++◌}
use Prim.Native.Nat.{◌-◌, ◌≤◌}
use lib.ListN.{length, drop}
use Rattle.memory.specs.Map.{record_count, records}
use Rattle.handoff.specs.Pieces.{EndsFit, pieces}
use Rattle.handoff.proofs.MapPiecesIterator.next.Given as goal

abbrev pub invariant-loop-p : goal.invariant-loop-p
invariant-loop-p l = record {
  left : l.self-inside.these ++ pieces l.self-inside.table.now (drop l.self-inside.next (records l.self-inside.map.now)) ≡ l.fn.self;
  whole_table : length l.self-inside.table.now ≤ 32;
  ends_fit : EndsFit l.self-inside.map.now;
}

abbrev pub decreases-loop-p : goal.decreases-loop-p
decreases-loop-p l = record_count l.self-inside.map.now - l.self-inside.next
