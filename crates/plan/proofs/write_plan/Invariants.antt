-- `plan::write_plan` meets its contract. The records of the sections passed are written, and a turn writes those of the next; its pages are
-- among those of all, so there is room. Assumes nothing.
use mathlib.Core.Path.{◌≡◌}
use mathlib.Core.List.{◌++◌}
use Prim.Native.Nat.{◌+◌, ◌*◌, ◌≤◌}
use lib.ListN.{length}
use lib.Seq.{sets}
use Rattle.std.specs.List.{All}
use Rattle.tdvf.specs.Section.{pages_in_all}
use Rattle.plan.specs.Plan.{Fits, pages, plan_bytes}
use Rattle.plan.proofs.write_plan.Given as goal

abbrev pub invariant-loop-s : goal.invariant-loop-s
invariant-loop-s l = record {
  all_sections : l.yielded ++ l.s-iterator ≡ l.table;
  fit : All Fits l.s-iterator;
  place : l.next ≡ 16 * pages_in_all l.yielded;
  room : l.next + 16 * pages_in_all l.s-iterator ≤ length l.initial.buffer;
  written : l.buffer ≡ sets l.initial.buffer 0 (plan_bytes (pages l.handoff l.yielded));
}
