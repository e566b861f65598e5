-- `measure::absorb`: the goals that are answered by hand. Invariants.antt says why it meets its contract. Assumes nothing.
use Rattle.std.proofs.Common.{◌≡◌, ℕ, ◌+◌, List, sym, ap, ◌∙◌, ap₂, arith}
use Rattle.sha384.specs.Hash.{compressed}
use Rattle.sha384.specs.declared.State.{State}
use Rattle.measure.specs.Stream.{block_at, folded}
use Rattle.measure.proofs.Blocks.{before-none, before-least, block-is}
use Rattle.measure.proofs.Folded.{folded-none, folded_more}
use Rattle.measure.proofs.absorb.Goals as goal

pub loop-done-init : goal.loop-done-init
loop-done-init c =
    let a = c.args in (
      omega (arith, c.forward-c.ensures.0, before-none a.plan.now),
      c.forward-c.ensures.1,
      folded-none (block_at a.image.now a.plan.now) a.state a.from,
    )

pub forward-c-requires-in-loop-done : goal.forward-c-requires-in-loop-done
forward-c-requires-in-loop-done c =
    let l = c.loop-done in
    let a = c.args in
    omega (arith, l.invariant.0, c.requires.few_blocks, before-least a.plan.now l.c.record)

pub loop-done-preserved : goal.loop-done-preserved
loop-done-preserved c =
    let l = c.loop-done in
    let a = c.args in
    let block = block_at a.image.now a.plan.now in (
      omega (arith, c.forward-c-in-loop-done.ensures.0, l.invariant.0),
      c.forward-c-in-loop-done.ensures.1,
      c.absorb_block-value.ensures
          ∙ ap₂ (λ (s : State) (b : List ℕ). compressed s b) l.invariant.2
          (sym (block-is a.image.now a.plan.now l.c.record l.c.block (a.from + l.done) l.invariant.0 l.invariant.1))
          ∙ folded_more block a.state a.from l.done,
    )

pub returns : goal.returns
returns c =
    let l = c.loop-done in
    let a = c.args in
    let e : l.done ≡ a.blocks = omega arith in
    l.invariant.2 ∙ ap (λ (q : ℕ). folded (block_at a.image.now a.plan.now) a.state a.from q) e
