-- `handoff::piece_at` meets its contract: the next section starts here, or above. Assumes nothing.
use Rattle.handoff.proofs.Cut.{piece-fits}
use Rattle.handoff.proofs.piece_at.Goals as goal

pub overflow_sub-result : goal.overflow_sub-result
overflow_sub-result c =
    let a = c.args in
    let n = c.next_of-next in
    piece-fits a.table.now a.at a.top n.result n.ensures c.requires
