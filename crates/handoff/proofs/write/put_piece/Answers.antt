-- `handoff::write::put_piece` meets its contract: six writes, each right behind the one before. Assumes nothing.
use mathlib.Core.Path.{◌∙◌}
use native.Mathlib.Omega.{arith}
use Rattle.wire.proofs.Fields.{fields-none, fields_more, fields_number, fields_zeros, fields_all}
use Rattle.handoff.proofs.Written.{head-length, piece-parts}
use Rattle.handoff.proofs.write.put_piece.Goals as goal

pub returns : goal.returns
returns c =
    let p = c.args.p in
    let head = fields_more 8 (fields-none c.requires) (omega arith) c.put_head.ensures (head-length 3 48) in
    let zeros = fields_zeros 16 head (omega arith) c.clear.ensures in
    let named = fields_number 4 c.attributes.result (fields_number 4 c.sort.result zeros (omega arith) c.put.ensures) (omega arith) c.put-2.ensures in
    fields_all (fields_number 8 p.length (fields_number 8 p.start named (omega arith) c.put-3.ensures) (omega arith) c.put-4.ensures)
    ∙ piece-parts c.sort.result c.attributes.result p c.sort.ensures c.attributes.ensures
