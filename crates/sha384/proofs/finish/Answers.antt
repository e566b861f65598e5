-- `sha384::finish` meets its contract. What is left of the message, with its padding, is one block or two, as `end` says:
-- where the first block is not all of it, the second is. Assumes nothing.
use Rattle.std.proofs.Common.{take, drop, sym, ap, ◌∙◌}
use Rattle.sha384.specs.declared.State.{State}
use Rattle.sha384.specs.Hash.{compressed, left384}
use Rattle.sha384.proofs.Hash.{finished-one, finished-two}
use Rattle.sha384.proofs.finish.Goals as goal

pub returns-then-behind-eq-ONE_BLOCK : goal.returns-then-behind-eq-ONE_BLOCK
returns-then-behind-eq-ONE_BLOCK c =
    c.left_384.ensures
    ∙ ap left384 c.block-next.ensures
    ∙ finished-one c.args.state c.args.left.now c.last-last.result c.args.total c.requires.left_over
    c.last-last.ensures (sym c.end-behind.ensures ∙ c.if-behind-eq-ONE_BLOCK.true)

pub returns : goal.returns
returns c =
    c.left_384-2.ensures
    ∙ ap left384 (c.block.ensures ∙ ap (λ (s : State). compressed s (take 128 (drop 128 c.last-last.result))) c.block-next.ensures)
    ∙ finished-two c.args.state c.args.left.now c.last-last.result c.args.total c.requires.left_over
    c.last-last.ensures (λ h. c.if-behind-eq-ONE_BLOCK.false (c.end-behind.ensures ∙ h))
