-- `handoff::write::put_pieces` meets its contract. The blocks of the pieces passed are written; a turn writes that of the next, which has
-- room, since all have. Assumes nothing.
use mathlib.Core.Path.{◌≡◌}
use mathlib.Core.List.{◌++◌}
use Prim.Native.Nat.{◌*◌}
use lib.ListN.{length}
use lib.Seq.{sets}
use Rattle.handoff.specs.List.{piece_blocks}
use Rattle.handoff.proofs.write.put_pieces.Given as goal

abbrev pub invariant-loop-p : goal.invariant-loop-p
invariant-loop-p l = record {
  all_pieces : l.yielded ++ l.p-iterator ≡ l.fn.pieces;
  place : l.next ≡ 48 * length l.yielded;
  written : l.part ≡ sets l.initial.part 0 (piece_blocks l.yielded);
}
