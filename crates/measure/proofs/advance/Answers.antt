-- `measure::advance` meets its contract: what is left of the stream is done first, and where a block is left of the quota, it is the padding's. Assumes
-- nothing.
use Rattle.std.proofs.Common.{ℕ, min, List, ap, ◌∙◌}
use Rattle.sha384.specs.Hash.{compressed}
use Rattle.measure.specs.Turn.{whole_records}
use Rattle.measure.proofs.Run.{turn-stream, turn-padding}
use Rattle.measure.proofs.advance.Goals as goal

pub returns-then-stream-blocks : goal.returns-then-stream-blocks
unfolding whole_records
returns-then-stream-blocks c =
    let a = c.args in
    turn-stream a.image.now a.plan.now a.state a.blocks c.min-stream.result c.absorb-value.result c.requires.left
    (c.min-stream.ensures ∙ ap (min a.blocks) c.saturating_sub.ensures) c.absorb-value.ensures c.requires.some c.if-stream-blocks.true

pub returns : goal.returns
unfolding whole_records
returns c =
    let a = c.args in
    c.block.ensures
    ∙ ap (λ (b : List ℕ). compressed c.absorb-value.result b) c.padding_block.ensures
    ∙ turn-padding a.image.now a.plan.now a.state a.blocks c.min-stream.result c.absorb-value.result c.requires.left
    (c.min-stream.ensures ∙ ap (min a.blocks) c.saturating_sub.ensures) c.absorb-value.ensures c.if-stream-blocks.false
