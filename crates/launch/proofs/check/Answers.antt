-- `launch::check` meets its contract: each stage that is kept hands on to the next, and the first that is broken is the verdict; the part of
-- the image from the descriptor on serves as the image's own fields. Assumes nothing.
use mathlib.Core.Path.{sym, ap, ◌∙◌}
use native.Mathlib.Omega.{arith}
use Rattle.std.proofs.lemmas.Result.{err_from_is_err_and}
use Rattle.memory.specs.Map.{bits, fault_verdict}
use Rattle.memory.proofs.Broken.{bits-allowed}
use Rattle.tdvf.specs.Image.{Fields, fields_of}
use Rattle.tdvf.proofs.Descriptor.{fields-length, located-missed}
use Rattle.launch.specs.Host.{Host, host_with}
use Rattle.launch.specs.Stages.{judged}
use Rattle.launch.proofs.Order.{first-is, first-passed, first-kept, map-answered, map-passed, ends-fit, checked_refused, checked-laid, part-few, part-long, part-start, part_count, part-laid, part-kept}
use Rattle.launch.proofs.Keeps.{stops_first, stops-map, stops-descriptor}
use Rattle.launch.proofs.check.Goals as goal

pub returns-in_err-width : goal.returns-in_err-width
returns-in_err-width c =
    let a = c.args in
    let h : Host = host_with a.map.now a.width a.plan a.handoff in
    let f : Fields = fields_of a.image.now in
    let one = first-is a.image.now a.map.now a.width a.plan a.handoff (judged c.first.result) c.first.ensures.judged in
    let p = err_from_is_err_and c.from_residual.result c.from_residual.ensures.1 in
    rw (p.1, p.2) (sym (checked_refused h f _ (stops_first h f _ (sym one ∙ ap judged c.in_err-width.was))))

pub returns-in_err-check : goal.returns-in_err-check
returns-in_err-check c =
    let a = c.args in
    let h : Host = host_with a.map.now a.width a.plan a.handoff in
    let f : Fields = fields_of a.image.now in
    let one = first-passed a.image.now a.map.now a.width a.plan a.handoff c.first.ensures.judged c.in_ok-width.was in
    let two = map-answered c.in_ok-width.width a.width (rw c.in_ok-width.was at c.first.ensures.width) a.map.now c.check.result c.check.ensures in
    let p = err_from_is_err_and c.from_residual-in_err-check.result c.from_residual-in_err-check.ensures.1 in
    rw (p.1, p.2) (sym (checked_refused h f _ (stops-map h f one _ (sym two ∙ ap fault_verdict c.in_err-check.was))))

pub locate-requires : goal.locate-requires
locate-requires c =
    let a = c.args in
    let h : Host = host_with a.map.now a.width a.plan a.handoff in
    let f : Fields = fields_of a.image.now in
    let one = first-passed a.image.now a.map.now a.width a.plan a.handoff c.first.ensures.judged c.in_ok-width.was in
    omega (arith, (first-kept h f one).low, fields-length a.image.now)

pub returns-in_err-located : goal.returns-in_err-located
returns-in_err-located c =
    let a = c.args in
    let h : Host = host_with a.map.now a.width a.plan a.handoff in
    let f : Fields = fields_of a.image.now in
    let one = first-passed a.image.now a.map.now a.width a.plan a.handoff c.first.ensures.judged c.in_ok-width.was in
    let two = map-passed c.in_ok-width.width a.width (rw c.in_ok-width.was at c.first.ensures.width) a.map.now c.check.ensures c.in_ok-check.was in
    let p = err_from_is_err_and c.from_residual-in_err-located.result c.from_residual-in_err-located.ensures.1 in
    let missed = located-missed f _ (sym c.locate.ensures ∙ c.in_err-located.was) in
    rw (p.1, p.2) (sym (checked_refused h f _ (stops-descriptor h f one two _ missed)))

-- the descriptor's place is in the image
pub slice_bounds-lay_out-count : goal.slice_bounds-lay_out-count
slice_bounds-lay_out-count c =
    let l = c.in_ok-located.located in part-start c.args.image.now l.offset l.count (sym c.locate.ensures ∙ c.in_ok-located.was)

pub slice_bounds-lay_out-start : goal.slice_bounds-lay_out-start
slice_bounds-lay_out-start c =
    let l = c.in_ok-located.located in part-start c.args.image.now l.offset l.count (sym c.locate.ensures ∙ c.in_ok-located.was)

pub lay_out-requires : goal.lay_out-requires
lay_out-requires c =
    let a = c.args in
    let w = c.in_ok-width.width in
    let l = c.in_ok-located.located in
    let here = sym c.locate.ensures ∙ c.in_ok-located.was in
    record {
      whole_table = (part-few a.image.now l.offset l.count here, part-long a.image.now l.offset l.count here);
      counted_all = part_count a.image.now l.offset l.count here;
      ends_fit = ends-fit (bits w) a.map.now (bits-allowed w) (sym c.check.ensures ∙ c.in_ok-check.was);
    }

pub returns : goal.returns
returns c =
    let a = c.args in
    let h : Host = host_with a.map.now a.width a.plan a.handoff in
    let f : Fields = fields_of a.image.now in
    let one = first-passed a.image.now a.map.now a.width a.plan a.handoff c.first.ensures.judged c.in_ok-width.was in
    let two = map-passed c.in_ok-width.width a.width (rw c.in_ok-width.was at c.first.ensures.width) a.map.now c.check.ensures c.in_ok-check.was in
    let l = c.in_ok-located.located in
    let here = sym c.locate.ensures ∙ c.in_ok-located.was in
    c.lay_out.ensures ∙ part-laid a.image.now l.offset l.count here a.map.now a.width a.plan a.handoff
    ∙ sym (checked-laid h f one two (part-kept a.image.now l.offset l.count here))
