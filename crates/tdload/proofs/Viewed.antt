-- The page view for C: what it names is the page view's part. Assumes nothing.
use mathlib.Core.Path.{◌≡◌, refl, sym, ap, ◌∙◌}
use mathlib.Core.Bool.{Bool, true, false, ◌&&◌}
use mathlib.Core.List.{List, [], ◌∷◌}
use Prim.Native.Nat.{ℕ, zero, suc, ◌+◌, ◌≤◌, ◌<◌}
use native.Mathlib.Omega.{arith}
use native.Mathlib.Decide.{ℕ_discrete}
use lib.Dec.{leb}
use lib.ListN.{length, take, drop}
use borrow.Author.Tests.{eq-eqb, ne_eqb}
use Rattle.verdict.specs.Rules.{pick}
use Rattle.plan.specs.View.{part, view}
use Rattle.plan.proofs.Shown.{view-volume, view-list, view-none}
use Rattle.tdload.specs.Outward.{slice_number, viewed, named}

-- ---- by the type

pub slice-volume : (sort : ℕ) → sort < 2 → 1 ≡ slice_number sort
unfolding slice_number
slice-volume zero h = refl
slice-volume (suc zero) h = refl
slice-volume (suc (suc sort)) h = absurd (omega arith)

pub slice-list : (sort : ℕ) → sort ≡ 2 → 2 ≡ slice_number sort
unfolding slice_number
slice-list sort e = sym (ap slice_number e)

pub slice-none : (sort : ℕ) → 3 ≤ sort → 0 ≡ slice_number sort
unfolding slice_number
slice-none zero h = absurd (omega arith)
slice-none (suc zero) h = absurd (omega arith)
slice-none (suc (suc zero)) h = absurd (omega arith)
slice-none (suc (suc (suc sort))) h = refl

-- ---- by the part

module _ (image handoff : List ℕ) (offset size sort : ℕ) where
  abbrev shown : List ℕ
  shown = view image handoff offset size sort

  pub viewed-none : length shown ≡ 0 → viewed image handoff offset size sort ≡ record { slice = 0; offset = 0; length = 0 }
  unfolding viewed
  viewed-none e = rw (eq-eqb (length shown) 0 e)

  pub viewed-some : (length shown ≡ 0 → ⊥) → viewed image handoff offset size sort ≡ record { slice = slice_number sort; offset = offset; length = size }
  unfolding viewed
  viewed-some n = rw (ne_eqb (length shown) 0 n)

empty : (l : List ℕ) → length l ≡ 0 → [] ≡ l
empty [] e = refl
empty (x ∷ xs) e = absurd (omega arith)

-- a part that is not empty is inside its slice
part-some : (s : List ℕ) (offset size : ℕ) → (length (part s offset size) ≡ 0 → ⊥) → take size (drop offset s) ≡ part s offset size
unfolding part
part-some s offset size n = step (leb (offset + size) (length s) && leb size 4096) n
  where
    step : (b : Bool) → (length (pick b (take size (drop offset s)) []) ≡ 0 → ⊥) → take size (drop offset s) ≡ pick b (take size (drop offset s)) []
    step true k = refl
    step false k = absurd (k refl)

-- THE THEOREM: the slice, the start and the length that are answered name the page view's part, for every record
pub named-is : (image handoff : List ℕ) (offset size sort : ℕ) → named image handoff (viewed image handoff offset size sort) ≡ view image handoff offset size sort
unfolding named slice_number
named-is image handoff offset size sort = step sort (ℕ_discrete (length (view image handoff offset size sort)) 0)
  where
    some : (t : ℕ) (s : List ℕ) → view image handoff offset size t ≡ part s offset size → (length (view image handoff offset size t) ≡ 0 → ⊥) → take size (drop offset s) ≡ view image handoff offset size t
    some t s e n = part-some s offset size (λ z. n (ap length e ∙ z)) ∙ sym e

    step : (t : ℕ) → Dec (length (view image handoff offset size t) ≡ 0) → named image handoff (viewed image handoff offset size t) ≡ view image handoff offset size t
    step t (yes e) = rw (viewed-none image handoff offset size t e) (empty (view image handoff offset size t) e)
    step zero (no n) = rw (viewed-some image handoff offset size zero n) (some zero image (view-volume image handoff offset size zero (omega arith)) n)
    step (suc zero) (no n) = rw (viewed-some image handoff offset size (suc zero) n) (some (suc zero) image (view-volume image handoff offset size (suc zero) (omega arith)) n)
    step (suc (suc zero)) (no n) = rw (viewed-some image handoff offset size (suc (suc zero)) n) (some (suc (suc zero)) handoff (view-list image handoff offset size (suc (suc zero)) refl) n)
    step (suc (suc (suc t))) (no n) = absurd (n (ap length (view-none image handoff offset size (suc (suc (suc t))) (omega arith))))
