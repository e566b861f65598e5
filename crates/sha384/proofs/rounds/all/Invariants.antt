-- `sha384::rounds::all` meets its contract. After t turns the state is that after t rounds, and a turn is one round more.
-- Assumes nothing.
use Rattle.std.proofs.Common.{◌≡◌}
use Rattle.sha384.specs.Hash.{rounds}
use Rattle.sha384.proofs.rounds.all.Given as goal

abbrev pub invariant-loop-t : goal.invariant-loop-t
invariant-loop-t l = l.v ≡ rounds l.initial.v l.w l.t
