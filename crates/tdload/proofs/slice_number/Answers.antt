-- `tdload::slice_number` meets its contract. Assumes nothing.
use native.Mathlib.Omega.{arith}
use Rattle.tdload.proofs.Viewed.{slice-volume, slice-list, slice-none}
use Rattle.tdload.proofs.slice_number.Goals as goal

pub returns-in-2 : goal.returns-in-2
returns-in-2 c = slice-list c.args.sort c.in-2.is

pub returns-in-0-to-1 : goal.returns-in-0-to-1
returns-in-0-to-1 c = slice-volume c.args.sort (omega arith)

pub returns-in_default : goal.returns-in_default
returns-in_default c = slice-none c.args.sort (omega arith)
