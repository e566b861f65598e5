-- `measure::absorb_block` meets its contract. Block 0 adds the page; of the others each third, from block 1 on,
-- names a chunk, and the two behind it are its halves. Assumes nothing.
use Rattle.std.proofs.Common.{ℕ, List, ap, ◌∙◌}
use Rattle.sha384.specs.Hash.{compressed}
use Rattle.measure.specs.Stream.{add_tag, extend_tag}
use Rattle.measure.proofs.Blocks.{at_first, at_head, at-data}
use Rattle.measure.proofs.absorb_block.Goals as goal

pub returns-then-n-eq0 : goal.returns-then-n-eq0
unfolding add_tag
returns-then-n-eq0 c =
    let a = c.args in
    c.block.ensures
    ∙ ap (λ (b : List ℕ). compressed a.state b)
    (c.head.ensures ∙ at_first a.image.now a.plan.now a.c.record a.c.block c.record_page-p.result c.record_page-p.ensures c.if-n-eq0.true)

pub returns-then-place-eq0 : goal.returns-then-place-eq0
unfolding extend_tag
returns-then-place-eq0 c =
    let a = c.args in
    c.block-then-place-eq0.ensures
    ∙ ap (λ (b : List ℕ). compressed a.state b)
    (c.head-then-place-eq0.ensures
    ∙ at_head a.image.now a.plan.now a.c.record a.c.block c.record_page-p.result c.record_page-p.ensures c.if-n-eq0.false
    c.requires.stands c.if-place-eq0.true c.wrapping_add_u64-address.result c.wrapping_add_u64-address.ensures.value)

pub returns : goal.returns
returns c =
    let a = c.args in
    c.«data».ensures
    ∙ ap (λ (b : List ℕ). compressed a.state b)
    (at-data a.image.now a.plan.now a.c.record a.c.block c.record_page-p.result c.record_page-p.ensures c.if-n-eq0.false
    c.requires.stands c.if-place-eq0.false _ c.view-shown.ensures)
