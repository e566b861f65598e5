-- "Every planned page is added once": what is said of a list of pages. Assumes nothing.
use Rattle.std.specs.Prelude.{◌⊎◌, ◌+◌, ◌≤◌}
use mathlib.Core.List.{List, [], ◌∷◌, Memᴰ}
use Rattle.plan.specs.declared.Page.{Page}

-- two pages of 4,096 bytes that have no address in common: one ends at or before the other's start
abbrev pub Beside : Page → Page → Type 0
Beside p q = (p.address + 4096 ≤ q.address) ⊎ (q.address + 4096 ≤ p.address)

-- no two pages of the list have an address in common; so their own addresses differ, too
abbrev pub Once : List Page → Type 0
Once [] = Unit
Once (p ∷ ps) = ((q : Page) → Memᴰ q ps → Beside p q) × Once ps
