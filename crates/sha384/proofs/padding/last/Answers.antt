-- `sha384::padding::last` meets its contract. The four writes go into zeros, each behind the one before, and what they pass
-- over is the padding's zeros. Assumes nothing.
use Rattle.std.proofs.Common.{length, arith, length-set}
use Rattle.sha384.proofs.Pad.{zeros-fit, last-is}
use Rattle.sha384.proofs.padding.last.Goals as goal

pub put_word-requires : goal.put_word-requires
put_word-requires c =
    simp length-set (omega (arith, zeros-fit (length c.args.left.now), c.copy.auto.buffer))

pub put_word-requires-2 : goal.put_word-requires-2
put_word-requires-2 c =
    omega (arith, zeros-fit (length c.args.left.now), c.put_word.auto.buffer, c.copy.auto.buffer)

pub returns : goal.returns
returns c =
    last-is c.args.left.now c.copy.new.buffer c.put_word.new.buffer c.put_word-2.new.buffer
    c.args.total c.end-behind.result c.requires
    c.end-behind.ensures c.copy.ensures c.put_word.ensures c.put_word-2.ensures
