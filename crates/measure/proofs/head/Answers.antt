-- `measure::head` meets its contract: the tag and the address go into zeros. Assumes nothing.
use Rattle.measure.proofs.Bytes.{head-is}
use Rattle.measure.proofs.head.Goals as goal

pub returns : goal.returns
returns c =
    head-is c.args.tag.now c.copy.new.buffer c.put_at.new.buffer c.args.address c.requires c.copy.ensures c.put_at.ensures
