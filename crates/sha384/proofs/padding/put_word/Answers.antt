-- `sha384::padding::put_word` meets its contract: what is copied over the buffer's part are the word's bytes. Assumes nothing.
use Rattle.std.proofs.Common.{rules, arith}
use Rattle.sha384.proofs.Pad.{word_written, word_whole}
use Rattle.sha384.proofs.padding.put_word.Goals as goal

pub returns : goal.returns
returns c =
    word_written c.args.buffer.now c.copy_from_slice.new.self c.args.at c.args.word _ c.requires (omega arith) (search (rules, word_whole))
