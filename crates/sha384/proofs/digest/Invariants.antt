-- `sha384::digest` meets its contract. After n turns the state is the hash value after n blocks; with less than a block left,
-- the rest is what `finish` is for. Assumes nothing.
use Rattle.std.proofs.Common.{◌≡◌}
use Rattle.sha384.specs.Constants.{H⁰}
use Rattle.sha384.specs.Hash.{after}
use Rattle.sha384.proofs.digest.Given as goal

abbrev pub invariant-loop-n : goal.invariant-loop-n
invariant-loop-n l = l.state ≡ after H⁰ l.message l.n
