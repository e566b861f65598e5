-- `launch::sections` meets its contract. While the loop goes on, the sections passed break no rule, and in the inner loop the earlier
-- sections passed share no address with this one. Each way out by the label is the first broken rule of the first section that breaks one.
-- Assumes nothing.
use mathlib.Core.Path.{◌≡◌}
use mathlib.Core.Bool.{false}
use Rattle.tdvf.specs.Section.{shared_broken}
use Rattle.std.specs.Prelude.{Ok}
use Rattle.verdict.specs.Turns.{in_turn, up_to}
use Rattle.verdict.specs.Rules.{judge}
use Rattle.tdvf.specs.Image.{section_at}
use Rattle.launch.specs.Host.{host_with}
use Rattle.launch.specs.Rules.{section_rules}
use Rattle.launch.specs.Stages.{fields_with}
use Rattle.launch.proofs.sections.Given as goal

abbrev pub invariant-loop-j : goal.invariant-loop-j
invariant-loop-j l = (l.verdict ≡ Ok tt) × (shared_broken (up_to (section_at l.descriptor) l.j) l.s ≡ false)

abbrev pub invariant-sections : goal.invariant-sections
invariant-sections l =
    (l.verdict ≡ Ok tt) × (judge (in_turn (section_rules (host_with l.map 0 0 0) (fields_with l.length 0 l.descriptor)) l.k) ≡ Ok tt)
