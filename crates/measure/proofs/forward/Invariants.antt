-- `measure::forward` meets its contract. A record that is passed takes its blocks off; each has one at least, so
-- the record stays within the two numbers that it began with. Assumes nothing.
use Rattle.std.proofs.Common.{◌≡◌, ◌+◌, ◌≤◌}
use Rattle.measure.specs.Stream.{before}
use Rattle.measure.proofs.forward.Given as goal

abbrev pub invariant-loop-record : goal.invariant-loop-record
invariant-loop-record l =
    (before l.plan l.record + l.block ≡ before l.plan l.fn.c.record + l.fn.c.block) × (l.record + l.block ≤ l.fn.c.record + l.fn.c.block)
