-- `plan::view`: a type above 2 names no slice. Assumes nothing.
use mathlib.Core.Path.{sym}
use native.Mathlib.Omega.{arith}
use Rattle.plan.proofs.Shown.{view-none}
use Rattle.plan.proofs.view.Goals as goal

pub returns-in_default : goal.returns-in_default
returns-in_default c =
    let a = c.args in
    sym (view-none a.image.now a.handoff.now a.offset a.length a.sort (omega arith))
