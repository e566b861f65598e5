-- `sha384::rounds::all`: the goal that is answered by hand, where the code's table of constants is the definition's K.
-- Invariants.antt says why it meets its contract. Assumes nothing.
use Rattle.std.proofs.Common.{◌∙◌}
use Rattle.sha384.specs.Constants.{K}
use Rattle.sha384.proofs.Hash.{rounds-more}
use Rattle.sha384.proofs.rounds.all.Goals as goal

pub loop-t-preserved : goal.loop-t-preserved
unfolding K
loop-t-preserved c = c.once-v.ensures ∙ rounds-more c.args.s c.loop-t.v c.args.w.now c.loop-t.t c.loop-t.invariant
