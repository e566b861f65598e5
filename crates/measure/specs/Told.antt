-- What a launch loads, as the measured stream is to tell it: which pages it adds, which of them it measures, and their bytes.
-- Assumes nothing.
use Rattle.std.specs.Prelude.{◌≡◌, ℕ, Bool, List, [], ◌∷◌, ◌++◌, map}
use Rattle.verdict.specs.Rules.{pick}
use Rattle.plan.specs.declared.Page.{Page}
use Rattle.plan.specs.View.{held}
use Rattle.measure.specs.Stream.{is_measured}

-- the addresses of the pages, in plan order
unfoldable pub added : List Page → List ℕ
added ps = map (λ p. p.address) ps

-- for each page, in plan order, whether it is measured
unfoldable pub marks : List Page → List Bool
marks ps = map is_measured ps

-- the 4,096 bytes of each measured page, in plan order
unfoldable pub measured_bytes : List ℕ → List ℕ → List Page → List (List ℕ)
measured_bytes image handoff [] = []
measured_bytes image handoff (p ∷ ps) = pick (is_measured p) (held image handoff p ∷ []) [] ++ measured_bytes image handoff ps

-- two launches, each its image, its HOB list and its pages, load the same
pub record SameLoad (image handoff : List ℕ) (ps : List Page) (image' handoff' : List ℕ) (ps' : List Page) : Type 0 where
  -- "they add the same addresses in the same order"
  pub addresses : added ps ≡ added ps'
  -- "measure the same ones"
  pub marked : marks ps ≡ marks ps'
  -- "the measured pages hold the same bytes"
  pub bytes : measured_bytes image handoff ps ≡ measured_bytes image' handoff' ps'
