-- `sha384::digest`: the goals that are answered by hand. Invariants.antt says why it meets its contract. Assumes nothing.
use Rattle.std.proofs.Common.{◌≡◌, ◌+◌, ◌-◌, ◌*◌, ◌∙◌, add-one, arith}
use Rattle.sha384.specs.Padding.{block}
use Rattle.sha384.specs.Hash.{after}
use Rattle.sha384.proofs.Hash.{digested}
use Rattle.sha384.proofs.digest.Goals as goal

pub loop-n-preserved : goal.loop-n-preserved
unfolding after block
loop-n-preserved c =
    let n = c.loop-n.n in
    let size : 128 * n + 128 - 128 * n ≡ 128 = omega arith in
    c.block-state.ensures ∙ rw (add-one n, size, c.loop-n.invariant)

pub returns : goal.returns
returns c =
    c.finish.ensures ∙ digested c.args.message.now c.loop-n.state c.loop-n.n (omega arith) c.loop-n.invariant
