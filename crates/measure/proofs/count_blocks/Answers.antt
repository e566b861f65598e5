-- `measure::count_blocks` meets its contract: the counts of the records in turn, at most 49 each, are added up. Assumes nothing.
use Rattle.std.proofs.Common.{◌≡◌, ℕ, zero, suc, ◌+◌, ◌^◌, List, ap, ◌∙◌, add-zero, zero-add, arith, rules}
use native.Mathlib.Nat.{sub-zero}
use Rattle.std.specs.List.{sum_by, range_with_len}
use Rattle.std.proofs.lemmas.List.Sums.{sum_by-cons}
use Rattle.std.proofs.lemmas.Iterator.{YieldsList-from_range, YieldsList-from_map}
use Rattle.std.proofs.lemmas.Iterator.Consumers.{sum_by_from_yields_List, fits_by_from_yields_list}
use Rattle.measure.specs.Stream.{count_of, before}
use Rattle.measure.proofs.Blocks.{before-none, before_more, before-most}
use Rattle.measure.proofs.count_blocks.Goals as goal

counted : (plan : List ℕ) (a n : ℕ) → before plan a + sum_by (count_of plan) (range_with_len a n) ≡ before plan (a + n)
counted plan a zero = omega (arith, ap (before plan) (add-zero a))
counted plan a (suc n) =
    let next : a + 1 + n ≡ a + suc n = omega arith in
    omega (arith, sum_by-cons (count_of plan) a (range_with_len (a + 1) n), before_more plan a, counted plan (a + 1) n, ap (before plan) next)

counted-all : (plan : List ℕ) (n : ℕ) → sum_by (count_of plan) (range_with_len 0 n) ≡ before plan n
counted-all plan n = omega (arith, before-none plan, counted plan 0 n, ap (before plan) (zero-add n))

pub sum-requires-clause-fits : goal.sum-requires-clause-fits
sum-requires-clause-fits c =
    let plan = c.args.plan.now in
    let n = c.args.records in
    fits_by_from_yields_list (count_of plan) (range_with_len 0 n) c.map.result (2 ^ 64)
    (YieldsList-from_map _ (count_of plan) (YieldsList-from_range 0 n n c.map.ensures.source (sub-zero n)) c.map.ensures.closure (λ x r q k. search rules))
    (omega (arith, counted-all plan n, before-most plan n))

pub returns : goal.returns
returns c =
    let plan = c.args.plan.now in
    let n = c.args.records in
    sum_by_from_yields_List (count_of plan) (range_with_len 0 n) c.map.result c.sum.result c.sum.ensures.ran
    (YieldsList-from_map _ (count_of plan) (YieldsList-from_range 0 n n c.map.ensures.source (sub-zero n)) c.map.ensures.closure (λ x r q k. search rules))
    ∙ counted-all plan n
