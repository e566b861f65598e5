-- `tdvf::Table::count` meets its contract: a table has as many sections as are counted. Assumes nothing.
use native.Mathlib.Omega.{arith}
use mathlib.Core.Path.{ap}
use lib.ListN.{length}
use Rattle.verdict.proofs.Turns.{length-up_to}
use Rattle.tdvf.specs.Image.{section_at}
use Rattle.tdvf.proofs.Table.count.Goals as goal

pub returns : goal.returns
returns c =
    let t = c.self.inside in
    omega (arith, length-up_to (section_at t.descriptor.now) t.count, ap length c.self.view_is)
