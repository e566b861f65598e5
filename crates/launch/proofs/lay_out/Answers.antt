-- `launch::lay_out` meets its contract: the sections' rules, then the last ones by what was counted, then the layout. Assumes nothing.
use mathlib.Core.Path.{sym, ap, ◌∙◌}
use native.Mathlib.Omega.{arith}
use lib.ListN.{length}
use Rattle.std.specs.Prelude.{Ok}
use Rattle.std.proofs.lemmas.Result.{err_from_is_err_and}
use Rattle.verdict.proofs.Turns.{length-up_to}
use Rattle.tdvf.specs.Image.{section_at}
use Rattle.launch.specs.Stages.{fields_with}
use Rattle.launch.specs.Host.{host_with}
use Rattle.launch.proofs.Laid.{laid-sections, laid-last, laid-out, row-counted, records-few, last-counted, layout-counted}
use Rattle.launch.proofs.lay_out.Goals as goal

pub returns-in_err-sections : goal.returns-in_err-sections
returns-in_err-sections c =
    let a = c.args in
    let h = host_with a.map.now 0 0 0 in
    let f = fields_with a.length a.offset a.descriptor.now in
    let row = row-counted a.map.now a.length a.offset a.descriptor.now a.count c.requires.counted_all in
    let p = err_from_is_err_and c.from_residual.result c.from_residual.ensures.1 in
    rw (p.1, p.2) (sym (laid-sections h f _ (sym row ∙ sym c.sections.ensures ∙ c.in_err-sections.was)))

pub totals_of-totals-requires : goal.totals_of-totals-requires
totals_of-totals-requires c =
    let d = section_at c.args.descriptor.now in
    omega (arith, ap length c.new-table.ensures, length-up_to d c.args.count, c.requires.whole_table.0)

pub count_pieces-requires-clause-whole_table : goal.count_pieces-requires-clause-whole_table
count_pieces-requires-clause-whole_table c =
    let d = section_at c.args.descriptor.now in
    omega (arith, ap length c.new-table.ensures, length-up_to d c.args.count, c.requires.whole_table.0)

pub list_length-handoff-requires : goal.list_length-handoff-requires
list_length-handoff-requires c =
    let a = c.args in
    records-few a.map.now a.length a.offset a.descriptor.now a.count c.requires.counted_all c.new-table.result c.new-table.ensures
    c.count_pieces.result c.count_pieces.ensures c.requires.whole_table.0 c.requires.ends_fit.few

pub returns-in_err-last : goal.returns-in_err-last
returns-in_err-last c =
    let a = c.args in
    let h = host_with a.map.now 0 0 0 in
    let f = fields_with a.length a.offset a.descriptor.now in
    let row = row-counted a.map.now a.length a.offset a.descriptor.now a.count c.requires.counted_all in
    let kept = sym row ∙ sym c.sections.ensures ∙ c.in_ok-sections.was in
    let t = c.totals_of-totals in
    let n = c.count_pieces in
    let l = c.list_length-handoff in
    let ending = last-counted a.map.now a.length a.offset a.descriptor.now a.count c.requires.counted_all c.new-table.result c.new-table.ensures
    t.result n.result l.result t.ensures n.ensures l.ensures in
    let p = err_from_is_err_and c.from_residual-in_err-last.result c.from_residual-in_err-last.ensures.1 in
    rw (p.1, p.2) (sym (laid-last h f kept _ (sym ending ∙ sym c.last.ensures ∙ c.in_err-last.was)))

pub returns : goal.returns
returns c =
    let a = c.args in
    let h = host_with a.map.now 0 0 0 in
    let f = fields_with a.length a.offset a.descriptor.now in
    let row = row-counted a.map.now a.length a.offset a.descriptor.now a.count c.requires.counted_all in
    let kept = sym row ∙ sym c.sections.ensures ∙ c.in_ok-sections.was in
    let t = c.totals_of-totals in
    let n = c.count_pieces in
    let l = c.list_length-handoff in
    let ending = last-counted a.map.now a.length a.offset a.descriptor.now a.count c.requires.counted_all c.new-table.result c.new-table.ensures
    t.result n.result l.result t.ensures n.ensures l.ensures in
    ap Ok (layout-counted a.map.now a.length a.offset a.descriptor.now a.count c.requires.counted_all c.new-table.result c.new-table.ensures
    t.result n.result l.result t.ensures n.ensures l.ensures)
    ∙ sym (laid-out h f kept (sym ending ∙ sym c.last.ensures ∙ c.in_ok-last.was))
