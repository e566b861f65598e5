-- `handoff::write::write_list` meets its contract: the first block, the pieces' blocks and the last one are the list's bytes, and as long as the
-- caller says. Assumes nothing.
use mathlib.Core.Path.{◌≡◌, sym}
use Prim.Native.Nat.{◌+◌, ◌*◌}
use native.Mathlib.Omega.{arith}
use lib.ListN.{length}
use Rattle.wire.proofs.Sets.{part_sets, rest_sets}
use Rattle.std.proofs.Common.{rules}
use Rattle.memory.specs.Map.{records}
use Rattle.handoff.specs.Pieces.{pieces}
use Rattle.handoff.specs.List.{first_block, last_block, piece_blocks}
use Rattle.handoff.proofs.Count.{fewer-behind}
use Rattle.handoff.proofs.Size.{first-length, last-length}
use Rattle.handoff.proofs.Written.{size-of, blocks-of, list-room, blocks-fit, blocks-end, list-is}
use Rattle.handoff.proofs.write.write_list.Goals as goal

-- there is room for the blocks of any walk that gives no more pieces than the map, and for the last one behind them
pub put_pieces-next-requires : goal.put_pieces-next-requires
put_pieces-next-requires c =
    blocks-fit _ _ c.requires.whole_list _ (search (rules, fewer-behind)) _ (omega arith)

pub overflow_add-next : goal.overflow_add-next
overflow_add-next c = omega (arith, blocks-end _ _ c.requires.whole_list _ (search (rules, fewer-behind)) _ c.put_pieces-next.ensures.size)

pub overflow_add-next-2 : goal.overflow_add-next-2
overflow_add-next-2 c = omega (arith, blocks-end _ _ c.requires.whole_list _ (search (rules, fewer-behind)) _ c.put_pieces-next.ensures.size)

pub slice_bounds-put_last-end : goal.slice_bounds-put_last-end
slice_bounds-put_last-end c = omega (arith, blocks-end _ _ c.requires.whole_list _ (search (rules, fewer-behind)) _ c.put_pieces-next.ensures.size)

-- of any walk that gives the map's pieces
pub returns-clause-next_place : goal.returns-clause-next_place
returns-clause-next_place c =
    let a = c.args in
    let put = c.put_pieces-next in
    let ps = pieces a.table.now (records a.map.now) in
    let size : put.result ≡ 48 * length ps = size-of ps _ _ (search rules) put.ensures.size in
    omega (arith, size, list-room ps a.length c.requires.whole_list)

pub returns-clause-written : goal.returns-clause-written
returns-clause-written c =
    let a = c.args in
    let put = c.put_pieces-next in
    let ps = pieces a.table.now (records a.map.now) in
    let past = a.address + a.length in
    let whole = c.requires.whole_list in
    let room = list-room ps a.length whole in
    let size : put.result ≡ 48 * length ps = size-of ps _ _ (search rules) put.ensures.size in
    let next : 56 + put.result ≡ 56 + 48 * length ps = omega (arith, size) in
    let first = part_sets a.buffer.now _ (first_block past) 0 56 c.put_first.ensures (sym (first-length past)) (omega (arith, room)) in
    let blocks = rest_sets _ _ (piece_blocks ps) 56 _ (blocks-of ps _ _ _ (search rules) put.ensures.written) (omega arith) in
    let last = part_sets _ _ last_block (56 + put.result) _ c.put_last.ensures (omega (arith, last-length)) (omega arith) in
    list-is ps a.length whole a.buffer.now _ _ _ a.address (56 + put.result) first blocks next last
