-- `measure::forward` meets its contract. A record that is passed takes its blocks off; past the plan's end each has one, so that
-- the block is the first of the record that far on. Assumes nothing.
use Rattle.std.proofs.Common.{◌≡◌, ◌+◌, ap, arith}
use Rattle.measure.specs.Stream.{before}
use Rattle.measure.proofs.Blocks.{count-least, before_more, before-past}
use Rattle.measure.proofs.forward.Goals as goal

pub loop-record-preserved : goal.loop-record-preserved
loop-record-preserved c =
    let plan = c.args.plan.now in
    let l = c.loop-record in
    (omega (arith, c.count_of-count.ensures, before_more plan l.record), omega (arith, c.count_of-count.ensures, count-least plan l.record))

pub returns : goal.returns
returns c =
    let plan = c.args.plan.now in
    let end = c.max-end.result in
    let block = c.loop-record.block in
    let past : end ≡ c.loop-record.record = omega arith in (
      omega (arith, ap (before plan) past, before-past plan end block (omega arith)),
      omega (arith, count-least plan (end + block)),
      omega arith,
    )
