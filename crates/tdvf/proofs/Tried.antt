-- The rules of a section as the code tries them: by the type, and each of several conditions in turn. Assumes nothing.
use mathlib.Core.Path.{◌≡◌, refl, sym, ap, ◌∙◌}
use mathlib.Core.Bool.{Bool, true, false, not, ◌||◌, ◌&&◌}
use mathlib.Core.Logic.{◌⊎◌, inl, inr}
use Prim.Native.Nat.{ℕ, zero, suc, ◌≤◌, ◌<◌}
use native.Mathlib.Omega.{arith}
use borrow.Author.Tests.{ltb-true, ltb-false, lt-ltb, le-ltb, leb-true, leb-false, lt-leb, le-leb}
use lib.Dec.{leb, ltb, eqb}
use Rattle.verdict.proofs.Rules.{either}
use Rattle.tdvf.specs.declared.Section.{Section}
use Rattle.tdvf.specs.Section.{attributes_allowed, raw_allowed, raw_broken}

pub not-not : (b : Bool) → not (not b) ≡ b
not-not true = refl
not-not false = refl

-- neither of two is so
pub record Neither (a b : Bool) : Type 0 where
  pub first : a ≡ false
  pub second : b ≡ false

pub or-neither : (a b : Bool) → (a || b) ≡ false → Neither a b
or-neither true b e = absurd (let z : ◌≡◌ {A = ℕ} 0 1 = cc in omega arith)
or-neither false b e = record { first = refl; second = e }

-- both of two are so
pub record Both (a b : Bool) : Type 0 where
  pub first : a ≡ true
  pub second : b ≡ true

pub and_both : (a b : Bool) → (a && b) ≡ true → Both a b
and_both true b e = record { first = refl; second = e }
and_both false b e = absurd (let z : ◌≡◌ {A = ℕ} 0 1 = cc in omega arith)

-- tests that are true together are the same
pub ltb-same : (a b c d : ℕ) → (a < b → c < d) → (c < d → a < b) → ltb a b ≡ ltb c d
ltb-same a b c d f g = step (either (ltb a b))
  where
    step : (ltb a b ≡ true) ⊎ (ltb a b ≡ false) → ltb a b ≡ ltb c d
    step (inl e) = e ∙ sym (lt-ltb c d (f (ltb-true a b e)))
    step (inr e) =
        let l : b ≤ a = ltb-false a b e in
        let n : c < d → ⊥ = λ h. let m : a < b = g h in omega arith in
        e ∙ sym (le-ltb c d (omega arith))

-- below is not at least
pub less-not : (a b : ℕ) → ltb a b ≡ not (leb b a)
less-not a b = step (either (leb b a))
  where
    step : (leb b a ≡ true) ⊎ (leb b a ≡ false) → ltb a b ≡ not (leb b a)
    step (inl e) = le-ltb a b (leb-true b a e) ∙ ap not (sym e)
    step (inr e) = lt-ltb a b (leb-false b a e) ∙ ap not (sym e)

-- ---- rule 10

pub attributes-other : (t a : ℕ) → 2 ≤ t → attributes_allowed t a ≡ eqb a 0
unfolding attributes_allowed
attributes-other zero a h = absurd (omega arith)
attributes-other (suc zero) a h = absurd (omega arith)
attributes-other (suc (suc t)) a h = refl

-- ---- rule 11

pub raw-data : (s : Section) → s.sort ≤ 1 → raw_broken s ≡ eqb s.raw 0
unfolding raw_broken raw_allowed
raw-data s h = rw (le-leb s.sort 1 h) (not-not (eqb s.raw 0))

pub raw-none : (s : Section) → 1 < s.sort → raw_broken s ≡ not (eqb s.raw 0 && eqb s.offset 0)
unfolding raw_broken raw_allowed
raw-none s h = rw (lt-leb s.sort 1 h)
