-- `memory::check`: the goals that are answered by hand. Invariants.antt says why it meets its contract. Assumes nothing.
use mathlib.Core.Path.{sym, ◌∙◌}
use native.Mathlib.Omega.{arith}
use Rattle.std.proofs.lemmas.Result.{err_from_is_err_and}
use Rattle.memory.proofs.First.{fault-is}
use Rattle.memory.proofs.Broken.{bits-allowed}
use Rattle.memory.proofs.Kept.{count-fault, pass-none, before-none, before-next, pass-next, pass-stop, pass-end, end_fits}
use Rattle.memory.proofs.check.Goals as goal

pub returns-then-count_broken : goal.returns-then-count_broken
returns-then-count_broken c = sym (count-fault _ _ (sym c.count_broken.ensures ∙ c.if-count_broken.true))

pub loop-i-init : goal.loop-i-init
loop-i-init c = (pass-none _ _, sym (before-none _))

pub returns-in_err-record_fault : goal.returns-in_err-record_fault
returns-in_err-record_fault c =
    let p = err_from_is_err_and c.from_residual.result c.from_residual.ensures.1 in
    let kept = sym c.count_broken.ensures ∙ c.if-count_broken.false in
    let f = c.in_err-record_fault in
    rw (p.1, p.2)
    (f.ensures
    ∙ pass-stop _ _ c.loop-i.i _ _ c.loop-i.invariant.1 c.record_at-r.ensures c.loop-i.invariant.0 kept (omega arith) (λ q. fault-is _ (f.ensures ∙ q)))

pub overflow_add-before : goal.overflow_add-before
overflow_add-before c =
    record { fits = omega (arith, end_fits _ _ c.record_at-r.result _ (bits-allowed c.args.width) (sym c.in_ok-record_fault.ensures)) }

pub loop-i-preserved : goal.loop-i-preserved
loop-i-preserved c = (
  pass-next _ _ c.loop-i.i _ _ c.loop-i.invariant.1 c.record_at-r.ensures c.loop-i.invariant.0 (sym c.in_ok-record_fault.ensures),
  before-next _ c.loop-i.i _ c.record_at-r.ensures,
)

pub returns : goal.returns
returns c =
    sym
    (pass-end _ _ (sym c.count_broken.ensures ∙ c.if-count_broken.false) c.loop-i.i (omega arith) c.loop-i.invariant.0)
