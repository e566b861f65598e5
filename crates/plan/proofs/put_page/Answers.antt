-- `plan::put_page` meets its contract: the fields are written over the part's first 16 bytes, and nothing else is. Assumes nothing.
use native.Mathlib.Omega.{arith}
use Rattle.wire.proofs.Sets.{part_sets}
use Rattle.plan.specs.Plan.{page_bytes}
use Rattle.plan.proofs.Records.{length-page}
use Rattle.plan.proofs.put_page.Goals as goal

pub returns : goal.returns
returns c =
    let a = c.args in
    part_sets a.part.now _ (page_bytes a.p) 0 16 c.put_fields.ensures (omega (arith, length-page a.p)) (omega arith)
