-- `sha384::schedule::first_words`: the goal that is answered by hand. Invariants.antt says why it meets its contract. Assumes nothing.
use Rattle.std.proofs.Common.{sym, ◌∙◌, arith, length-set}
use Rattle.sha384.specs.Hash.{schedule}
use Rattle.sha384.proofs.Hash.{schedule-more, next-first}
use Rattle.sha384.proofs.schedule.first_words.Goals as goal

pub loop-t-preserved : goal.loop-t-preserved
loop-t-preserved c =
    let M = c.args.block.now in
    let next = next-first M c.loop-t.t (schedule M c.loop-t.t) (omega arith) in
    record {
      long = simp length-set c.loop-t.invariant.long;
      so_far = schedule-more M c.loop-t.w c.loop-t.t c.word_at.result (omega arith) c.loop-t.invariant.so_far (c.word_at.ensures ∙ sym next);
    }
