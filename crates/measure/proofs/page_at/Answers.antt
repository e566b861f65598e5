-- `measure::page_at` meets its contract: a whole record is read where it stands, and of another what is left of the plan is
-- read, with zeros behind it. Assumes nothing.
use Rattle.std.proofs.Common.{◌∙◌}
use Rattle.measure.proofs.Bytes.{page-whole, page-cut}
use Rattle.measure.proofs.page_at.Goals as goal

pub returns-then-end-plan : goal.returns-then-end-plan
returns-then-end-plan c =
    let a = c.args in
    c.page_in.ensures ∙ page-whole a.plan.now a.index

pub returns : goal.returns
returns c =
    let a = c.args in
    c.page_in-2.ensures
    ∙ page-cut a.plan.now c.copy.new.buffer a.index c.min-first.result c.min-first.ensures c.copy.ensures c.if-end-plan.false
