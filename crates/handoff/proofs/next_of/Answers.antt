-- `handoff::next_of`: the goals that are answered by hand. Invariants.antt says why it meets its contract. Assumes nothing.
use native.Mathlib.Omega.{arith}
use Rattle.handoff.proofs.Cut.{next-none, next_more}
use Rattle.handoff.proofs.next_of.Goals as goal

pub loop-k-init : goal.loop-k-init
loop-k-init c =
    let a = c.args in
    rw c.count-k.ensures (next-none a.table.now a.at a.top)

pub loop-k-preserved : goal.loop-k-preserved
loop-k-preserved c =
    let a = c.args in
    let s = c.section.result in
    cc (next_more a.table.now a.at a.top c.loop-k.k s (omega arith) (omega arith) (c.section.ensures s))
