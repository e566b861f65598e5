-- The map's rules have a number of the page's. Assumes nothing.
use mathlib.Core.List.{List, [], ◌∷◌, map as each}
use Prim.Native.Nat.{ℕ, ◌≤◌}
use lib.Dec.{lit≤}
use Rattle.verdict.specs.Rules.{Numbered}
use Rattle.verdict.proofs.Each.{each_none}
use Rattle.verdict.proofs.Verdict.{numbered-cons}
use Rattle.memory.specs.declared.Cause.{Cause}
use Rattle.memory.specs.declared.Cause.TheVariants as cause
use Rattle.memory.specs.Map.{Tried, cause_number, cause_place, as_rule, map_tried, map_rules}

cause-low : (c : Cause) → 1 ≤ cause_number c
unfolding cause_number
cause-low cause.Count = lit≤ tt
cause-low cause.Multiple = lit≤ tt
cause-low cause.End = lit≤ tt
cause-low cause.Kind = lit≤ tt
cause-low cause.Order = lit≤ tt

cause-high : (c : Cause) → cause_number c ≤ 19
unfolding cause_number
cause-high cause.Count = lit≤ tt
cause-high cause.Multiple = lit≤ tt
cause-high cause.End = lit≤ tt
cause-high cause.Kind = lit≤ tt
cause-high cause.Order = lit≤ tt

pub map-numbered : (width : ℕ) (map : List ℕ) → Numbered (map_rules width map)
unfolding map_rules
map-numbered width map = rows (map_tried width map)
  where
    rows : (ts : List Tried) → Numbered (each as_rule ts)
    rows [] = each_none _
    rows (t ∷ ts) = numbered-cons (cause_number t.cause) (cause_place t.cause t.at) t.broken (each as_rule ts) (cause-low t.cause) (cause-high t.cause) (rows ts)
