-- `tdload::tdload_launch` meets its contract: the launch's own answer in numbers, and its buffers. Assumes nothing.
use mathlib.Core.Path.{ap, ◌∙◌}
use Rattle.tdload.specs.Outward.{outward}
use Rattle.tdload.proofs.tdload_launch.Goals as goal

pub returns : goal.returns
returns c =
    let l = c.launch in
    record {
      answered = c.from.ensures ∙ ap outward l.ensures.answered;
      plan_after = l.ensures.plan_after;
      handoff_after = l.ensures.handoff_after;
    }
