-- `sha384::schedule::words`: the goal that is answered by hand. Invariants.antt says why it meets its contract. Assumes nothing.
use Rattle.std.proofs.Common.{sym, ◌∙◌, arith, length-set}
use Rattle.sha384.proofs.Hash.{schedule-more, next-in}
use Rattle.sha384.proofs.schedule.words.Goals as goal

pub loop-t-preserved : goal.loop-t-preserved
loop-t-preserved c =
    let M = c.args.block.now in
    let next = next-in M c.loop-t.w c.loop-t.t (omega arith) c.loop-t.invariant.so_far in
    record {
      long = simp length-set c.loop-t.invariant.long;
      so_far = schedule-more M c.loop-t.w c.loop-t.t c.next_word.result (omega arith) c.loop-t.invariant.so_far (c.next_word.ensures ∙ sym next);
    }
