-- `turns::finish` is safe and ends: each turn of the loop does a block at least, so that what is left of the total falls, and no count is above the
-- blocks that are done. Assumes nothing.
use Rattle.std.proofs.Common.{◌-◌, ◌≤◌}
use Rattle.turns.proofs.finish.Given as goal

abbrev pub invariant-loop-state : goal.invariant-loop-state
invariant-loop-state l = (l.turns ≤ l.state.done) × (l.blocks ≤ l.state.done)

abbrev pub decreases-loop-state : goal.decreases-loop-state
decreases-loop-state l = l.state.total - l.state.done
