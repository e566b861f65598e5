-- `launch::launch` meets its contract: what all of it but the measurement answers, with the digest of the plan that stands in the buffer.
-- Assumes nothing.
use mathlib.Core.Path.{sym, ◌∙◌}
use lib.ListN.{length}
use Rattle.launch.specs.Host.{Host, host_with}
use Rattle.launch.proofs.Measured.{laid-refused, laid-few, laid-measured}
use Rattle.launch.proofs.launch.Goals as goal

pub returns-then-is_some-clause-answered : goal.returns-then-is_some-clause-answered
returns-then-is_some-clause-answered c =
    let a = c.args in
    let l = c.prepare-laid in
    let h : Host = host_with a.map.now a.width (length a.plan.now) (length a.handoff.now) in
    laid-refused h a.image.now l.result l.ensures.answered (sym c.is_some.ensures ∙ c.if-is_some.true)

pub measure-requires : goal.measure-requires
measure-requires c =
    let a = c.args in
    let l = c.prepare-laid in
    let h : Host = host_with a.map.now a.width (length a.plan.now) (length a.handoff.now) in
    laid-few h a.image.now l.result l.ensures.answered (sym c.is_some.ensures ∙ c.if-is_some.false)

pub returns : goal.returns
returns c =
    let a = c.args in
    let l = c.prepare-laid in
    let h : Host = host_with a.map.now a.width (length a.plan.now) (length a.handoff.now) in
    let none = sym c.is_some.ensures ∙ c.if-is_some.false in
    record {
      answered = laid-measured h a.image.now l.result l.ensures.answered none l.new.plan c.measure.result l.ensures.plan_after c.measure.ensures;
      plan_after = l.ensures.plan_after;
      handoff_after = l.ensures.handoff_after;
    }
