-- `sha384::start` meets its contract: the eight words are those of H⁰. Assumes nothing.
use Rattle.std.proofs.Common.{rules}
use Rattle.sha384.specs.Constants.{H⁰}
use Rattle.sha384.proofs.start.Goals as goal

pub returns : goal.returns
unfolding H⁰
returns c = search rules
