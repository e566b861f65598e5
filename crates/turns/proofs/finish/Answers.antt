-- `turns::finish`: what a turn's answer tells of the counts is in the law of `turn`. Assumes nothing.
use Rattle.std.proofs.Common.{arith}
use Rattle.measure.proofs.Held.{turn-counts}
use Rattle.turns.proofs.finish.Goals as goal

pub overflow_add-blocks : goal.overflow_add-blocks
overflow_add-blocks c =
    let a = c.args in
    let t = c.turn-turned in
    omega (arith, c.loop-state.auto.blocks-fits, turn-counts c.loop-state.state a.image.now a.plan.now a.quota t.result t.ensures)

pub loop-state-smaller : goal.loop-state-smaller
loop-state-smaller c =
    let a = c.args in
    let t = c.turn-turned in
    omega (arith, turn-counts c.loop-state.state a.image.now a.plan.now a.quota t.result t.ensures)

pub loop-state-preserved : goal.loop-state-preserved
loop-state-preserved c =
    let a = c.args in
    let t = c.turn-turned in
    let counts = turn-counts c.loop-state.state a.image.now a.plan.now a.quota t.result t.ensures in
    (omega (arith, counts), omega (arith, counts))
