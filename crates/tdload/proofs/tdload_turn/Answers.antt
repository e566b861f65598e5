-- `tdload::tdload_turn` meets its contract: a refused state answers its refusal, and another what the turn answers. Assumes nothing.
use mathlib.Core.Path.{sym, ap, ◌∙◌}
use Rattle.tdload.specs.declared.State.{State}
use Rattle.tdload.specs.Outward.{turned_with}
use Rattle.tdload.proofs.States.{answer-refused, answer-turned}
use Rattle.tdload.proofs.tdload_turn.Goals as goal

pub returns-then-state-ne0 : goal.returns-then-state-ne0
returns-then-state-ne0 c =
    let a = c.args in
    c.standing.ensures ∙ sym (answer-refused a.state a.image.now a.plan.now a.quota c.if-state-ne0.true)

pub returns : goal.returns
returns c =
    let a = c.args in
    c.turned_with.ensures
    ∙ ap (λ (s : State). turned_with s c.turn-turned.result) c.moved.ensures
    ∙ sym (answer-turned a.state a.image.now a.plan.now a.quota c.if-state-ne0.false c.progress_of.result c.turn-turned.result c.progress_of.ensures c.turn-turned.ensures)
