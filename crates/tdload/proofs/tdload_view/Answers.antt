-- `tdload::tdload_view` meets its contract: zeros for an empty part, else the record's own numbers. Assumes nothing.
use mathlib.Core.Path.{sym, ap}
use native.Mathlib.Omega.{arith}
use lib.ListN.{length}
use Rattle.tdload.proofs.Viewed.{viewed-none, viewed-some}
use Rattle.tdload.proofs.tdload_view.Goals as goal

pub returns-then-shown-eq0 : goal.returns-then-shown-eq0
returns-then-shown-eq0 c =
    let v = c.view-shown in
    let a = c.args in
    sym (viewed-none a.image.now a.handoff.now a.offset a.length a.sort (omega (arith, ap length v.ensures)))

pub returns : goal.returns
returns c =
    let v = c.view-shown in
    let a = c.args in
    let some = viewed-some a.image.now a.handoff.now a.offset a.length a.sort (λ z. omega (arith, ap length v.ensures)) in
    rw c.slice_number.ensures (sym some)
