-- Two sections share an address exactly where there is an address that lies in both; the code's test by the distance of their
-- starts; and a section against the sections before it. Assumes nothing.
use mathlib.Core.Path.{◌≡◌, refl, sym, ap, ◌∙◌}
use mathlib.Core.Bool.{Bool, true, false, ◌||◌, or_assoc, or-false}
use mathlib.Core.Logic.{◌↔◌}
use mathlib.Core.List.{List, [], ◌∷◌, ◌++◌}
use Prim.Native.Nat.{ℕ, ◌-◌, ◌≤◌, ◌<◌, min, max}
use native.Mathlib.Omega.{arith}
use borrow.Author.Tests.{ltb-true, lt-ltb, le-ltb}
use lib.Dec.{ltb}
use Rattle.verdict.proofs.Each.{Each, each_none, each-cons}
use Rattle.tdvf.specs.declared.Section.{Section}
use Rattle.tdvf.specs.Section.{end, shares, shared_broken}
use Rattle.tdvf.proofs.Tried.{ltb-same, or-neither}

-- the address lies in the section
abbrev pub Within : ℕ → Section → Type 0
Within x s = (s.address ≤ x) × (x < end s)

pub shares-exactly : (s t : Section) → (shares s t ≡ true) ↔ ((x : ℕ) × (Within x s × Within x t))
unfolding shares
shares-exactly s t =
    let low : ℕ = max s.address t.address in
    let high : ℕ = min (end s) (end t) in (
      λ e. let h : low < high = ltb-true low high e in (low, ((omega arith, omega arith), (omega arith, omega arith))),
      λ w. lt-ltb low high (omega arith),
    )

-- ---- by the distance of the starts

module _ (s t : Section) where
  pub shares-below : s.address ≤ t.address → t.address - s.address < s.size → shares s t ≡ ltb 0 t.size
  unfolding shares
  shares-below h l = ltb-same (max s.address t.address) (min (end s) (end t)) 0 t.size (λ m. omega arith) (λ m. omega arith)

  pub shares-above : t.address < s.address → s.address - t.address < t.size → shares s t ≡ ltb 0 s.size
  unfolding shares
  shares-above h l = ltb-same (max s.address t.address) (min (end s) (end t)) 0 s.size (λ m. omega arith) (λ m. omega arith)

  pub apart_below : s.address ≤ t.address → s.size ≤ t.address - s.address → shares s t ≡ false
  unfolding shares
  apart_below h l = le-ltb (max s.address t.address) (min (end s) (end t)) (omega arith)

  pub apart_above : t.address < s.address → t.size ≤ s.address - t.address → shares s t ≡ false
  unfolding shares
  apart_above h l = le-ltb (max s.address t.address) (min (end s) (end t)) (omega arith)

-- ---- against the sections before it

pub shared-none : (s : Section) → shared_broken [] s ≡ false
unfolding shared_broken
shared-none s = refl

pub shared-append : (xs ys : List Section) (s : Section) → shared_broken (xs ++ ys) s ≡ (shared_broken xs s || shared_broken ys s)
unfolding shared_broken
shared-append [] ys s = refl
shared-append (x ∷ xs) ys s =
    ap (λ (b : Bool). shares x s || b) (shared-append xs ys s) ∙ sym (or_assoc (shares x s) (shared_broken xs s) (shared_broken ys s))

pub shared-more : (ss : List Section) (t s : Section) → shared_broken (ss ++ (t ∷ [])) s ≡ (shared_broken ss s || shares t s)
unfolding shared_broken
shared-more ss t s = shared-append ss (t ∷ []) s ∙ ap (λ (b : Bool). shared_broken ss s || b) (or-false (shares t s))

-- none of the sections shares an address with it
abbrev pub Apart : List Section → Section → Type 0
Apart ss s = Each (λ (t : Section). shares t s ≡ false) ss

pub apart-exactly : (ss : List Section) (s : Section) → (shared_broken ss s ≡ false) ↔ Apart ss s
unfolding shared_broken
apart-exactly [] s = (λ e. each_none _, λ h. refl)
apart-exactly (t ∷ ss) s = (
  λ e. let n = or-neither (shares t s) (shared_broken ss s) e in (each-cons _ t ss).1 (n.first, (apart-exactly ss s).0 n.second),
  λ h. let b = (each-cons _ t ss).0 h in ap (λ (x : Bool). x || shared_broken ss s) b.0 ∙ (apart-exactly ss s).1 b.1,
)
