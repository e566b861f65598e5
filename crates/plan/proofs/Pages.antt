-- Where the pages of a section are, and that sections which share no address have pages that share none. Assumes nothing.
use mathlib.Core.Path.{◌≡◌, refl, sym, ap, subst, ◌∙◌}
use mathlib.Core.Bool.{true, false}
use mathlib.Core.Logic.{◌⊎◌, inl, inr}
use mathlib.Core.List.{List, [], ◌∷◌, ◌++◌}
use Prim.Native.Nat.{ℕ, zero, suc, ◌+◌, ◌≤◌, ◌<◌, min, max}
use native.Mathlib.Omega.{arith}
use native.Mathlib.Numerals.{add-one}
use lib.Dec.{leb}
use borrow.Author.Tests.{ltb-false, leb-true, leb-false}
use Rattle.verdict.specs.Turns.{up_to}
use Rattle.verdict.proofs.Turns.{up_to-none, up_to-more}
use Rattle.verdict.proofs.Each.{Each, each_none, each-cons, each_append, each-up_to}
use Rattle.verdict.proofs.Rules.{either}
use Rattle.tdvf.specs.declared.Section.{Section}
use Rattle.tdvf.specs.Section.{page_count, end, shares}
use Rattle.plan.specs.declared.Page.{Page}
use Rattle.plan.specs.Plan.{page_of, pages_of, pages}
use Rattle.plan.specs.Once.{Beside, Once}
use Rattle.plan.proofs.Back.{each-page}
use Rattle.plan.proofs.Records.{pages-more}

-- ---- a section's pages lie in its memory

-- a page that lies in a section's memory
pub record In (s : Section) (p : Page) : Type 0 where
  pub from : s.address ≤ p.address
  pub to : p.address + 4096 ≤ end s
  pub sort : p.sort ≡ s.sort

pub page-in : (handoff : ℕ) (s : Section) (k : ℕ) → k < page_count s → In s (page_of handoff s k)
unfolding page_of
page-in handoff s k l = record { from = omega arith; to = omega arith; sort = refl }

-- what holds of all that lies in each section holds of each page of the plan
pub pages-in : (P : Page → Type 0) (handoff : ℕ) (ss : List Section) → Each (λ s. (p : Page) → In s p → P p) ss → Each P (pages handoff ss)
pages-in P handoff ss each = each-page P handoff ss (λ s m k l. each s m (page_of handoff s k) (page-in handoff s k l))

-- ---- lists of pages that share no address

once-append : (ps qs : List Page) → Once ps → Once qs → Each (λ p. Each (Beside p) qs) ps → Once (ps ++ qs)
once-append [] qs a b across = b
once-append (p ∷ ps) qs a b across =
    let both = (each-cons _ p ps).0 across in
    ((each_append (Beside p) ps qs).1 (a.0, both.0), once-append ps qs a.1 b both.1)

once-up_to : (f : ℕ → Page) (n : ℕ) → ((i j : ℕ) → i < j → j < n → Beside (f i) (f j)) → Once (up_to f n)
once-up_to f zero h = subst Once (sym (up_to-none f)) tt
once-up_to f (suc n) h =
    let whole : up_to f (suc n) ≡ up_to f n ++ (f n ∷ []) = ap (up_to f) (sym (add-one n)) ∙ up_to-more f n in
    subst Once (sym whole)
    (once-append (up_to f n) (f n ∷ []) (once-up_to f n (λ i j l b. h i j l (omega arith))) (each_none _, tt)
    ((each-up_to _ f n).1 (λ i l. (each-cons (Beside (f i)) (f n) []).1 (h i n l (omega arith), each_none _))))

section-once : (handoff : ℕ) (s : Section) → Once (pages_of handoff s)
unfolding pages_of page_of
section-once handoff s = once-up_to (page_of handoff s) (page_count s) (λ i j l b. inl (omega arith))

-- pages of two sections that share no address
beside : (s t : Section) → shares s t ≡ false → (p q : Page) → In s p → In t q → Beside p q
unfolding shares
beside s t e p q a b = step (either (leb (end s) t.address))
  where
    low : min (end s) (end t) ≤ max s.address t.address
    low = ltb-false (max s.address t.address) (min (end s) (end t)) e

    step : (leb (end s) t.address ≡ true) ⊎ (leb (end s) t.address ≡ false) → Beside p q
    step (inl h) = inl (omega (arith, leb-true (end s) t.address h, a.to, b.from))
    step (inr h) = inr (omega (arith, leb-false (end s) t.address h, low, a.from, a.to, b.from, b.to))

-- THE THEOREM: "Every planned page is added once", where no section shares an address with an earlier one
pub pages-once : (handoff : ℕ) (f : ℕ → Section) (n : ℕ) → ((j k : ℕ) → j < k → k < n → shares (f j) (f k) ≡ false) → Once (pages handoff (up_to f n))
unfolding pages pages_of
pages-once handoff f zero apart = subst (λ (ss : List Section). Once (pages handoff ss)) (sym (up_to-none f)) tt
pages-once handoff f (suc n) apart =
    let whole : pages handoff (up_to f (suc n)) ≡ pages handoff (up_to f n) ++ pages_of handoff (f n) =
    ap (λ (k : ℕ). pages handoff (up_to f k)) (sym (add-one n)) ∙ ap (pages handoff) (up_to-more f n) ∙ pages-more handoff (up_to f n) (f n) in
    subst Once (sym whole)
    (once-append (pages handoff (up_to f n)) (pages_of handoff (f n)) (pages-once handoff f n (λ j k l b. apart j k l (omega arith))) (section-once handoff (f n))
    (pages-in _ handoff (up_to f n) ((each-up_to _ f n).1 (λ k l p a. across k l p a))))
  where
    across : (k : ℕ) → k < n → (p : Page) → In (f k) p → Each (Beside p) (pages_of handoff (f n))
    across k l p a =
        (each-up_to (Beside p) (page_of handoff (f n)) (page_count (f n))).1
        (λ i b. beside (f k) (f n) (apart k n l (omega arith)) p (page_of handoff (f n) i) a (page-in handoff (f n) i b))
