-- `plan::put_pages` meets its contract. After k turns the records of the first k pages are written, and a turn writes the next. Assumes nothing.
use mathlib.Core.Path.{◌≡◌}
use Prim.Native.Nat.{◌*◌}
use lib.Seq.{sets}
use Rattle.verdict.specs.Turns.{up_to}
use Rattle.plan.specs.Plan.{page_of, plan_bytes}
use Rattle.plan.proofs.put_pages.Given as goal

abbrev pub invariant-loop-k : goal.invariant-loop-k
invariant-loop-k l = record {
  place : l.next ≡ 16 * l.k;
  written : l.part ≡ sets l.initial.part 0 (plan_bytes (up_to (page_of l.handoff l.s) l.k));
}
