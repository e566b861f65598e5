-- `plan::write_plan`: the goals that are answered by hand. Invariants.antt says why it meets its contract. Assumes nothing.
use mathlib.Core.Path.{sym, ap, ◌∙◌}
use mathlib.Core.List.{List, [], ◌∷◌, ◌++◌, append_assoc}
use native.Mathlib.Omega.{arith}
use Rattle.std.proofs.lemmas.List.Elements.{All-rest, All-same}
use Rattle.wire.proofs.Sets.{rest_sets}
use Rattle.tdvf.specs.declared.Section.{Section}
use Rattle.tdvf.specs.Section.{pages_in_all}
use Rattle.tdvf.proofs.Sums as sums
use Rattle.plan.specs.Plan.{Fits, pages_of, plan_bytes}
use Rattle.plan.proofs.Records.{section-none, section-turn, count_none, count_next}
use Rattle.plan.proofs.write_plan.Goals as goal

pub loop-s-init : goal.loop-s-init
loop-s-init c =
    let a = c.args in
    let all = c.into_iter-s-iterator.ensures.into_iter_gives ∙ c.iter-s-items.ensures in
    record {
      all_sections = all;
      fit = All-same Fits _ _ all c.requires.sections_fit;
      place = omega (arith, count_none);
      room = omega (arith, ap pages_in_all all);
      written = section-none a.buffer.now a.handoff;
    }

pub loop-s-preserved : goal.loop-s-preserved
loop-s-preserved c =
    let a = c.args in
    let l = c.loop-s in
    let s = c.in-Some.s in
    let put = c.put_pages-next in record {
      all_sections = append_assoc l.yielded (s ∷ []) c.next.new.self ∙ ap (λ (ss : List Section). l.yielded ++ ss) (sym c.in-Some.ensures.steps) ∙ l.invariant.all_sections;
      fit = All-rest Fits s c.next.new.self l.s-iterator c.in-Some.ensures.steps l.invariant.fit;
      place = omega (arith, put.ensures.size, sums.pages-more l.yielded s);
      room = omega (arith, put.ensures.size, count_next s c.next.new.self, ap pages_in_all c.in-Some.ensures.steps);
      written = section-turn a.buffer.now l.buffer _ a.handoff l.next l.yielded s l.invariant.written l.invariant.place
          (rest_sets l.buffer _ (plan_bytes (pages_of a.handoff s)) l.next _ put.ensures.written (omega arith));
    }
