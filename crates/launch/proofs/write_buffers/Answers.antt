-- `launch::write_buffers` meets its contract: what the checks answered is what the writers ask for, and what they write is what the launch makes.
-- Assumes nothing.
use mathlib.Core.Path.{refl}
use lib.ListN.{length}
use Rattle.std.proofs.Common.{rules}
use Rattle.launch.proofs.Filled.{starts, part_long, ends, list-room, pages-few, table-few, table-list, table-room, handoff-low, table-fits, list-is, plan-is, blocks-are}
use Rattle.launch.proofs.write_buffers.Goals as goal

-- the descriptor's place is in the image
pub slice_bounds-new-count : goal.slice_bounds-new-count
slice_bounds-new-count c =
    let a = c.args in
    starts a.map.now c.requires.width (length a.plan.now) (length a.handoff.now) a.image.now a.layout c.requires.is

pub slice_bounds-new-start : goal.slice_bounds-new-start
slice_bounds-new-start c =
    let a = c.args in
    starts a.map.now c.requires.width (length a.plan.now) (length a.handoff.now) a.image.now a.layout c.requires.is

pub new-table-requires : goal.new-table-requires
new-table-requires c =
    let a = c.args in
    part_long a.map.now c.requires.width (length a.plan.now) (length a.handoff.now) a.image.now a.layout c.requires.is

pub write_list-requires : goal.write_list-requires
write_list-requires c =
    let a = c.args in
    let w = c.requires.width in
    let p = length a.plan.now in
    let q = length a.handoff.now in
    let e = c.requires.is in
    let t = c.new-table in
    record {
      whole_table = table-few a.map.now w p q a.image.now a.layout e t.result t.ensures;
      ends_fit = ends a.map.now w p q a.image.now a.layout e;
      whole_list = table-list a.map.now w p q a.image.now a.layout e t.result t.ensures;
      room = list-room a.map.now w p q a.image.now a.layout e;
    }

pub write_plan-requires : goal.write_plan-requires
write_plan-requires c =
    let a = c.args in
    let w = c.requires.width in
    let p = length a.plan.now in
    let q = length a.handoff.now in
    let e = c.requires.is in
    record {
      room = search (rules, table-room a.map.now w p q a.image.now a.layout e);
      list_fits = handoff-low a.map.now w p q a.image.now a.layout e;
      sections_fit = search (rules, table-fits a.map.now w p q a.image.now a.layout e);
    }

pub count_blocks-requires : goal.count_blocks-requires
count_blocks-requires c =
    let a = c.args in
    pages-few a.map.now c.requires.width (length a.plan.now) (length a.handoff.now) a.image.now a.layout c.requires.is

-- of any table that has all sections
pub returns-clause-plan_after : goal.returns-clause-plan_after
returns-clause-plan_after c =
    let a = c.args in
    let w = c.requires.width in
    let p = length a.plan.now in
    let q = length a.handoff.now in
    let e = c.requires.is in
    plan-is a.map.now w p q a.image.now a.layout e _ (search rules) a.plan.now c.write_plan.new.buffer c.write_plan.ensures.written

pub returns-clause-counted : goal.returns-clause-counted
returns-clause-counted c =
    let a = c.args in
    let w = c.requires.width in
    let p = length a.plan.now in
    let q = length a.handoff.now in
    let e = c.requires.is in
    blocks-are a.map.now w p q a.image.now a.layout e a.plan.now c.write_plan.new.buffer refl (returns-clause-plan_after c) c.count_blocks.result c.count_blocks.ensures

pub returns-clause-handoff_after : goal.returns-clause-handoff_after
returns-clause-handoff_after c =
    let a = c.args in
    let w = c.requires.width in
    let p = length a.plan.now in
    let q = length a.handoff.now in
    let e = c.requires.is in
    let t = c.new-table in
    list-is a.map.now w p q a.image.now a.layout e t.result t.ensures a.handoff.now c.write_list.new.buffer c.write_list.ensures.written
