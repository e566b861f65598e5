-- `tdvf::totals_of`: the goals that are answered by hand. Invariants.antt says why it meets its contract. Assumes nothing.
use mathlib.Core.Path.{◌≡◌, sym, ap, ◌∙◌}
use mathlib.Core.List.{List, [], ◌∷◌, ◌++◌, append_assoc}
use native.Mathlib.Omega.{arith}
use lib.ListN.{length, length-append}
use Rattle.tdvf.specs.declared.Section.{Section}
use Rattle.tdvf.specs.Section.{is_boot, is_handoff}
use Rattle.tdvf.proofs.Sums.{many-length, totals-none, totals-parts}
use Rattle.tdvf.proofs.totals_of.Goals as goal

pub loop-s-init : goal.loop-s-init
loop-s-init c = (sym totals-none, c.into_iter-s-iterator.ensures.into_iter_gives ∙ c.iter-s-items.ensures, omega arith)

pub counted-totals-requires : goal.counted-totals-requires
counted-totals-requires c =
    let l = c.loop-s in
    let parts = totals-parts l.totals l.yielded l.invariant.0 in
    let there : l.yielded ++ (c.in-Some.s ∷ c.next.new.self) ≡ c.args.table.now =
    ap (λ (ss : List Section). l.yielded ++ ss) (sym c.in-Some.ensures.steps) ∙ l.invariant.1 in
    let n = ap length there in
    let m = length-append l.yielded (c.in-Some.s ∷ c.next.new.self) in
    (omega (arith, many-length is_boot l.yielded), omega (arith, many-length is_handoff l.yielded), omega arith)

pub loop-s-preserved : goal.loop-s-preserved
loop-s-preserved c =
    let l = c.loop-s in
    let s = c.in-Some.s in (
      c.counted-totals.ensures.one_more l.yielded l.invariant.0,
      append_assoc l.yielded (s ∷ []) c.next.new.self ∙ ap (λ (ss : List Section). l.yielded ++ ss) (sym c.in-Some.ensures.steps) ∙ l.invariant.1,
      omega (arith, length-append l.yielded (s ∷ [])),
    )
