-- `tdload::tdload_begin` meets its contract: the start's own answer and state in numbers, and its buffers. Assumes nothing.
use mathlib.Core.Path.{ap}
use Rattle.tdload.specs.Outward.{outward_begun}
use Rattle.tdload.proofs.tdload_begin.Goals as goal

pub returns : goal.returns
unfolding outward_begun
returns c =
    record {
      begun = rw (c.from.ensures, c.from-2.ensures) (ap outward_begun c.begin-begun.ensures.begun);
      plan_after = c.begin-begun.ensures.plan_after;
      handoff_after = c.begin-begun.ensures.handoff_after;
    }
