-- `handoff::next_of` meets its contract. With k sections still to try, `next` is the next of those behind them; a turn puts one in front. Assumes nothing.
use mathlib.Core.Path.{◌≡◌}
use lib.ListN.{drop}
use Rattle.handoff.specs.Pieces.{next_of}
use Rattle.handoff.proofs.next_of.Given as goal

abbrev pub invariant-loop-k : goal.invariant-loop-k
invariant-loop-k l = l.next ≡ next_of (drop l.k l.table) l.at l.top
