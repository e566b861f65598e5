-- `launch::prepare` meets its contract: the buffers are cleared, and each way out is the definitions' own. Assumes nothing.
use mathlib.Core.Path.{refl, sym, ap, ◌∙◌}
use lib.ListN.{length}
use Rattle.launch.specs.Host.{host_with}
use Rattle.launch.specs.Launch.{refused_answer, accepted_answer}
use Rattle.launch.specs.Begin.{unmeasured}
use Rattle.launch.proofs.Filled.{unmeasured-is}
use Rattle.launch.proofs.Whole.{refused-whole, accepted-whole}
use Rattle.launch.proofs.prepare.Goals as goal

pub returns-in_default : goal.returns-in_default
unfolding refused_answer unmeasured
returns-in_default c =
    let a = c.args in
    let k = c.clear_and_check-checked in
    let w = refused-whole a.map.now a.width a.image.now a.plan.now a.handoff.now k.new.plan k.new.handoff
    k.ensures.plan_after k.ensures.handoff_after k.result k.ensures.checked c.in_default.field-0 c.in_default.is in
    record {
      answered = c.refused_answer.ensures ∙ ap refused_answer c.err.ensures.value ∙ ap unmeasured w.0;
      plan_after = w.1.0;
      handoff_after = w.1.1;
    }

pub write_buffers-blocks-requires : goal.write_buffers-blocks-requires
write_buffers-blocks-requires c = record { width = c.args.width; is = sym c.clear_and_check-checked.ensures.checked ∙ c.in-Ok.is }

pub returns : goal.returns
returns c =
    let a = c.args in
    let k = c.clear_and_check-checked in
    let b = c.write_buffers-blocks in
    let l = c.in-Ok.layout in
    let e = sym k.ensures.checked ∙ c.in-Ok.is in
    let w = accepted-whole a.map.now a.width a.image.now a.plan.now a.handoff.now k.new.plan k.new.handoff
    k.ensures.plan_after k.ensures.handoff_after k.result k.ensures.checked l c.in-Ok.is
    (accepted_answer (host_with a.map.now 0 0 0) a.image.now) b.new.plan b.new.handoff refl b.ensures.plan_after b.ensures.handoff_after in
    record {
      answered = c.answer_of.ensures
          ∙ unmeasured-is a.map.now a.width (length k.new.plan) (length k.new.handoff) a.image.now l e b.result b.ensures.counted ∙ ap unmeasured w.0;
      plan_after = w.1.0;
      handoff_after = w.1.1;
    }
