-- `sha384::padding_block` meets its contract: the bit 1 and the two words of the length go into zeros, and what they pass over is the
-- padding's zeros. Assumes nothing.
use Rattle.sha384.proofs.Pad.{whole_is}
use Rattle.sha384.proofs.padding_block.Goals as goal

pub returns : goal.returns
returns c =
    whole_is c.put_word.new.buffer c.put_word-2.new.buffer c.args.blocks c.put_word.ensures c.put_word-2.ensures
