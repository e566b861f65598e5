-- `measure::absorb` meets its contract. At each turn the cursor stands at the next block, and the hash value is
-- that of the blocks before it. Assumes nothing.
use Rattle.std.proofs.Common.{◌≡◌, ◌+◌, ◌<◌}
use Rattle.measure.specs.Stream.{block_at, count_of, before, folded}
use Rattle.measure.proofs.absorb.Given as goal

abbrev pub invariant-loop-done : goal.invariant-loop-done
invariant-loop-done l =
    (before l.plan l.c.record + l.c.block ≡ l.from + l.done)
    × (l.c.block < count_of l.plan l.c.record)
    × (l.value ≡ folded (block_at l.image l.plan) l.initial.value l.from l.done)
