-- `plan::put_fields` meets its contract: five fields, each behind the one before. Assumes nothing.
use mathlib.Core.Path.{◌∙◌}
use native.Mathlib.Omega.{arith}
use Rattle.wire.proofs.Fields.{fields-none, fields_number, fields_all}
use Rattle.plan.proofs.Records.{page-is}
use Rattle.plan.proofs.put_fields.Goals as goal

pub returns : goal.returns
returns c =
    let p = c.args.p in
    let two = fields_number 4 p.offset (fields_number 8 p.address (fields-none c.requires) (omega arith) c.put.ensures) (omega arith) c.put-2.ensures in
    fields_all (fields_number 1 p.measured (fields_number 1 p.sort (fields_number 2 p.length two (omega arith) c.put-3.ensures) (omega arith) c.put-4.ensures) (omega arith) c.put-5.ensures)
    ∙ page-is p
