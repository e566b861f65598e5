-- `sha384::padding::left_384` meets its contract. Six words of eight bytes are written one behind the other, and fill the
-- array. Assumes nothing.
use Rattle.sha384.proofs.Pad.{digest-is}
use Rattle.sha384.proofs.padding.left_384.Goals as goal

pub returns : goal.returns
returns c =
    digest-is _ _ _ _ _ _ _ c.put_word.ensures c.put_word-2.ensures c.put_word-3.ensures c.put_word-4.ensures c.put_word-5.ensures c.put_word-6.ensures
