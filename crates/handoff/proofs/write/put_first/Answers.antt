-- `handoff::write::put_first` meets its contract: four writes, each right behind the one before. Assumes nothing.
use mathlib.Core.Path.{◌∙◌}
use native.Mathlib.Omega.{arith}
use Rattle.wire.proofs.Fields.{fields-none, fields_more, fields_number, fields_zeros, fields_all}
use Rattle.handoff.proofs.Written.{head-length, first-parts}
use Rattle.handoff.proofs.write.put_first.Goals as goal

pub returns : goal.returns
returns c =
    let behind = c.args.behind in
    let head = fields_more 8 (fields-none c.requires) (omega arith) c.put_head.ensures (head-length 1 56) in
    let zeros = fields_zeros 36 (fields_number 4 9 head (omega arith) c.put.ensures) (omega arith) c.clear.ensures in
    fields_all (fields_number 8 behind zeros (omega arith) c.put-2.ensures) ∙ first-parts behind
