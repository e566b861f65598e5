-- `memory::check` meets its contract. At each turn none of the records passed has a fault, and `before` is the end of the last
-- of them. A record with a fault is then the first one and its fault the answer; one without has its end below 2 ^ 64, and
-- with all passed there is none. Assumes nothing.
use mathlib.Core.Path.{◌≡◌}
use Rattle.memory.specs.Map.{bits, end_before}
use Rattle.memory.proofs.Kept.{Passed}
use Rattle.memory.proofs.check.Given as goal

abbrev pub invariant-loop-i : goal.invariant-loop-i
invariant-loop-i l = Passed (bits l.width) l.map l.i × (l.before ≡ end_before l.map l.i)
