-- `handoff::count_pieces` meets its contract: of 64 records at most, each with 65 pieces at most, no count wraps. Assumes nothing.
use mathlib.Core.Path.{ap}
use mathlib.Core.Logic.{inl}
use native.Mathlib.Omega.{arith}
use lib.ListN.{length}
use Rattle.memory.specs.Map.{records}
use Rattle.handoff.proofs.Count.{pieces-few, records-length}
use Rattle.handoff.proofs.count_pieces.Goals as goal

pub count-requires-clause-fits : goal.count-requires-clause-fits
count-requires-clause-fits c =
    let a = c.args in
    inl (omega (
      arith,
      ap length c.new.ensures,
      pieces-few a.table.now (records a.map.now) c.requires.whole_table,
      records-length a.map.now,
      c.requires.ends_fit.few,
    ))
