-- The records of a lent plan that are past its end, and those that lie wholly in it. Assumes nothing.
use Rattle.std.proofs.Common.{◌≡◌, ℕ, ◌+◌, ◌-◌, ◌*◌, ◌/◌, ◌≤◌, List, [], ◌++◌, length, take, refl, ap, ◌∙◌, arith, length-append}
use lib.ListN.{get_or-eq_default}
use lib.Seq.{take-append-add}
use Rattle.wire.specs.Number.{number_at}
use Rattle.plan.specs.declared.Page.{Page}
use Rattle.plan.specs.Plan.{page_at}
use Rattle.measure.specs.Turn.{whole_records}
use Rattle.measure.proofs.Bytes.{page-same}

-- a page of zeros
abbrev pub zero_page : Page
zero_page = record { address = 0; offset = 0; length = 0; sort = 0; measured = 0 }

none-is : page_at [] 0 ≡ zero_page
unfolding page_at number_at
none-is = refl

-- "records past the buffer's end read as zeros"
pub page-past : (plan : List ℕ) (i : ℕ) → length plan ≤ 16 * i → page_at plan i ≡ zero_page
page-past plan i h = page-same plan [] i 0 (λ k l. get_or-eq_default plan 0 (omega arith)) ∙ none-is

-- behind a written plan the buffer's whole records are so many bytes more
pub whole-written : (bytes rest : List ℕ) (r : ℕ) → length bytes ≡ 16 * r
    → whole_records (bytes ++ rest) ≡ bytes ++ take (16 * (length (bytes ++ rest) / 16) - length bytes) rest
unfolding whole_records
whole-written bytes rest r e =
    let n : ℕ = 16 * (length (bytes ++ rest) / 16) in
    let k : n ≡ length bytes + (n - length bytes) = omega (arith, length-append bytes rest) in
    ap (λ (m : ℕ). take m (bytes ++ rest)) k ∙ take-append-add bytes rest (n - length bytes)
