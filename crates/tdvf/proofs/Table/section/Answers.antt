-- `tdvf::Table::section` meets its contract: a section of the table is where the definition has it, inside the slice. Assumes nothing.
use Prim.Native.Nat.{◌<◌}
use native.Mathlib.Omega.{arith}
use mathlib.Core.Path.{ap}
use lib.ListN.{length}
use Rattle.verdict.proofs.Turns.{length-up_to, get_or-up_to}
use Rattle.tdvf.specs.Image.{section_at}
use Rattle.tdvf.proofs.Table.section.Goals as goal

pub section_at-requires : goal.section_at-requires
section_at-requires c =
    let t = c.self.inside in
    omega (arith, length-up_to (section_at t.descriptor.now) t.count, ap length c.self.view_is)

pub returns : goal.returns
returns c =
    let t = c.self.inside in
    let f = section_at t.descriptor.now in
    let k = c.args.k in
    λ d. (let h : k < t.count = omega (arith, length-up_to f t.count, ap length c.self.view_is) in rw (← c.self.view_is, get_or-up_to f t.count k d h) c.section_at.ensures)
