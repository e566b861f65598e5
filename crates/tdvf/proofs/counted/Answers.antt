-- `tdvf::counted` meets its contract: a boot volume, the first TD HOB, a later one and any other section each change the totals as one
-- law of `Sums` says. Assumes nothing.
use native.Mathlib.Omega.{arith}
use borrow.Author.Tests.{eq-eqb, ne_eqb}
use Rattle.tdvf.proofs.Sums.{counted-boot, counted-other, counted-first, counted-later}
use Rattle.tdvf.proofs.counted.Goals as goal

pub returns-in-0-clause-one_more : goal.returns-in-0-clause-one_more
returns-in-0-clause-one_more c =
    let s = c.args.s in
    λ ss e.
    counted-boot c.args.t s ss e
    (eq-eqb s.sort 0 c.in-0.is) (ne_eqb s.sort 2 (λ h. omega (arith, c.in-0.is)))

pub returns-in-2-clause-one_more : goal.returns-in-2-clause-one_more
returns-in-2-clause-one_more c =
    let s = c.args.s in
    λ ss e.
    counted-first c.args.t s ss e
    (ne_eqb s.sort 0 (λ h. omega (arith, c.in-2.is))) (eq-eqb s.sort 2 c.in-2.is) c.if-t-eq0.true

pub returns-in-2-2-clause-one_more : goal.returns-in-2-2-clause-one_more
returns-in-2-2-clause-one_more c =
    let s = c.args.s in
    λ ss e.
    counted-later c.args.t s ss e
    (ne_eqb s.sort 0 (λ h. omega (arith, c.in-2.is))) (eq-eqb s.sort 2 c.in-2.is) c.if-t-eq0.false

pub returns-in_default-clause-one_more : goal.returns-in_default-clause-one_more
returns-in_default-clause-one_more c =
    let s = c.args.s in
    λ ss e.
    counted-other c.args.t s ss e
    (ne_eqb s.sort 0 (λ h. omega arith)) (ne_eqb s.sort 2 (λ h. omega arith))
