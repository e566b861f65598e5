-- `plan::put_pages`: the goals that are answered by hand. Invariants.antt says why it meets its contract. Assumes nothing.
use mathlib.Core.Path.{◌≡◌, ap, ◌∙◌}
use Prim.Native.Nat.{ℕ}
use native.Mathlib.Omega.{arith}
use lib.Seq.{sets}
use Rattle.wire.proofs.Sets.{rest_sets}
use Rattle.verdict.specs.Turns.{up_to}
use Rattle.tdvf.specs.Section.{page_count}
use Rattle.plan.specs.Plan.{page_of, pages_of, page_bytes, plan_bytes}
use Rattle.plan.proofs.Records.{page-none, page-turn}
use Rattle.plan.proofs.put_pages.Goals as goal

pub loop-k-init : goal.loop-k-init
loop-k-init c =
    let a = c.args in
    record { place = omega arith; written = page-none a.part.now 0 (page_of a.handoff a.s) }

pub loop-k-preserved : goal.loop-k-preserved
loop-k-preserved c =
    let a = c.args in
    let l = c.loop-k in
    let p = c.page_of.result in
    record {
      place = omega arith;
      written = page-turn a.part.now l.part _ 0 l.next l.k (page_of a.handoff a.s) p l.invariant.written (omega arith) c.page_of.ensures
          (rest_sets l.part _ (page_bytes p) l.next _ c.put_page.ensures (omega arith));
    }

pub returns-clause-written : goal.returns-clause-written
unfolding pages_of
returns-clause-written c =
    let a = c.args in
    let done : c.loop-k.k ≡ page_count a.s = omega arith in
    c.loop-k.invariant.written ∙ ap (λ (n : ℕ). sets a.part.now 0 (plan_bytes (up_to (page_of a.handoff a.s) n))) done
