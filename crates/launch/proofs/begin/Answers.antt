-- `launch::begin` meets its contract: the prepared answer, and the first state by it. Assumes nothing.
use mathlib.Core.Path.{ap, ap₂, ◌∙◌}
use Prim.Native.Nat.{ℕ}
use native.Mathlib.Omega.{arith}
use lib.ListN.{length}
use Rattle.launch.specs.declared.Answer.{Answer}
use Rattle.launch.specs.Host.{host_with}
use Rattle.launch.specs.Begin.{unmeasured, started_with, begun}
use Rattle.launch.proofs.Few.{blocks-few}
use Rattle.launch.proofs.OneTurn.{plan-length}
use Rattle.launch.proofs.begin.Goals as goal

pub started-requires : goal.started-requires
unfolding unmeasured
started-requires c =
    let a = c.args in
    let h = host_with a.map.now a.width (length a.plan.now) (length a.handoff.now) in
    omega (arith, ap (λ (r : Answer). r.blocks) c.prepare-answer.ensures.answered, blocks-few h a.image.now)

pub returns-clause-begun : goal.returns-clause-begun
unfolding begun
returns-clause-begun c =
    let a = c.args in
    let h = host_with a.map.now a.width (length a.plan.now) (length a.handoff.now) in
    c.started.ensures
    ∙ ap₂ (λ (r : Answer) (n : ℕ). started_with r (length a.image.now) n) c.prepare-answer.ensures.answered
    (ap length c.prepare-answer.ensures.plan_after ∙ plan-length h a.image.now)
