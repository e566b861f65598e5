-- `tdvf::totals_of` meets its contract. At each turn the totals are those of the sections passed, and a turn adds the next one;
-- of at most 32 sections, each of fewer than 2 ^ 52 pages, the pages fit. Assumes nothing.
use mathlib.Core.Path.{◌≡◌}
use mathlib.Core.List.{◌++◌}
use Prim.Native.Nat.{◌*◌, ◌^◌, ◌≤◌}
use lib.ListN.{length}
use Rattle.tdvf.specs.Section.{totals_of}
use Rattle.tdvf.proofs.totals_of.Given as goal

abbrev pub invariant-loop-s : goal.invariant-loop-s
invariant-loop-s l =
    (l.totals ≡ totals_of l.yielded) × (l.yielded ++ l.s-iterator ≡ l.table) × (l.totals.pages ≤ length l.yielded * 2 ^ 52)
