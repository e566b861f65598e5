-- `handoff::write::put_head` meets its contract: three numbers, each right behind the one before. Assumes nothing.
use mathlib.Core.Path.{◌∙◌}
use native.Mathlib.Omega.{arith}
use Rattle.wire.proofs.Fields.{fields-none, fields_number, fields_all}
use Rattle.handoff.proofs.Written.{head-parts}
use Rattle.handoff.proofs.write.put_head.Goals as goal

pub returns : goal.returns
returns c =
    let a = c.args in
    let two = fields_number 2 a.size (fields_number 2 a.sort (fields-none c.requires) (omega arith) c.put.ensures) (omega arith) c.put-2.ensures in
    fields_all (fields_number 4 0 two (omega arith) c.put-3.ensures) ∙ head-parts a.sort a.size
