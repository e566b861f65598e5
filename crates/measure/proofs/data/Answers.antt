-- `measure::data` meets its contract: a block that lies wholly in what is shown is there, and of another what is left is put
-- before zeros. Assumes nothing.
use Rattle.std.proofs.Common.{ℕ, List, ap, ◌∙◌}
use Rattle.sha384.specs.Hash.{compressed}
use Rattle.measure.proofs.Bytes.{data-whole, data-tail}
use Rattle.measure.proofs.data.Goals as goal

pub returns-then-end-shown : goal.returns-then-end-shown
returns-then-end-shown c =
    let a = c.args in
    c.block.ensures ∙ ap (λ (b : List ℕ). compressed a.state b) (data-whole a.shown.now a.at c.requires.within_page c.if-end-shown.true)

pub returns : goal.returns
returns c =
    let a = c.args in
    c.block-2.ensures
    ∙ ap (λ (b : List ℕ). compressed a.state b)
    (data-tail a.shown.now a.at c.requires.within_page c.copy.new.buffer c.min-first.result c.min-first.ensures c.copy.ensures c.if-end-shown.false)
