-- "more than 4,096 pages in all" is refused, so no answer names more pages than a plan's buffer has records for, nor more
-- blocks than these have. Assumes nothing.
use mathlib.Core.Path.{◌≡◌, refl, ap, ◌∙◌}
use mathlib.Core.Bool.{Bool, true, false}
use mathlib.Core.List.{List}
use Prim.Native.Nat.{ℕ, ◌*◌, ◌≤◌}
use native.Mathlib.Omega.{arith}
use Rattle.tdvf.specs.Image.{fields_of}
use Rattle.measure.proofs.Length.{blocks-most}
use Rattle.launch.specs.declared.Answer.{Answer}
use Rattle.launch.specs.Host.{Host}
use Rattle.launch.specs.Launch.{page_list, accepted_answer, accepted, answer}
use Rattle.launch.proofs.Accepted.{accepted-keeps, last-kept}
use Rattle.launch.proofs.Filled.{pages-counted}
use Rattle.launch.proofs.Refused.{refused-counts, accepted-answer}

pub pages-few : (h : Host) (image : List ℕ) (a : Answer) → a ≡ answer h image → a.pages ≤ 4096
unfolding accepted_answer
pages-few h image a e = step (accepted h image) refl
  where
    step : (b : Bool) → accepted h image ≡ b → a.pages ≤ 4096
    step true is =
        let kept = accepted-keeps h image is in
        let same = ap (λ (r : Answer). r.pages) (e ∙ accepted-answer h image is) in
        omega (arith, same, pages-counted h (fields_of image) kept, (last-kept h (fields_of image) kept).pages)
    step false not = omega (arith, ap (λ (r : Answer). r.pages) e, (refused-counts h image not).0)

-- nor more blocks than 49 for each of them
pub blocks-few : (h : Host) (image : List ℕ) → (answer h image).blocks ≤ 49 * 4096
unfolding accepted_answer
blocks-few h image = step (accepted h image) refl
  where
    step : (b : Bool) → accepted h image ≡ b → (answer h image).blocks ≤ 49 * 4096
    step true is =
        let kept = accepted-keeps h image is in
        let same = ap (λ (r : Answer). r.blocks) (accepted-answer h image is) in
        omega (arith, same, blocks-most (page_list h (fields_of image)), pages-counted h (fields_of image) kept, (last-kept h (fields_of image) kept).pages)
    step false not = omega (arith, (refused-counts h image not).2)
