-- `measure::record_page` meets its contract: past the plan's end a record reads as zeros. Assumes nothing.
use Rattle.std.proofs.Common.{sym, arith}
use Rattle.measure.proofs.Records.{page-past}
use Rattle.measure.proofs.record_page.Goals as goal

pub returns-then-plan-index : goal.returns-then-plan-index
returns-then-plan-index c = sym (page-past c.args.plan.now c.args.index (omega arith))
