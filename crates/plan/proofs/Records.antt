-- The records of pages: how long they are, one list of them behind another, and the pages of sections one after the other.
-- Assumes nothing.
use mathlib.Core.Path.{◌≡◌, refl, sym, ap, ◌∙◌}
use mathlib.Core.List.{List, [], ◌∷◌, ◌++◌, append_assoc, append-nil}
use Prim.Native.Nat.{ℕ, ◌+◌, ◌*◌}
use native.Mathlib.Omega.{arith}
use lib.ListN.{length, length-append}
use lib.Seq.{sets}
use Rattle.wire.specs.Number.{le}
use Rattle.wire.proofs.Digits.{length-le}
use Rattle.wire.proofs.Sets.{sets_then}
use Rattle.verdict.specs.Turns.{in_turn, up_to}
use Rattle.verdict.proofs.Turns.{length-up_to, up_to-more}
use Rattle.tdvf.specs.declared.Section.{Section}
use Rattle.tdvf.specs.Section.{page_count, pages_in_all}
use Rattle.plan.specs.declared.Page.{Page}
use Rattle.plan.specs.Plan.{page_of, pages_of, pages, page_bytes, plan_bytes}

-- ---- lengths

pub length-page : (p : Page) → length (page_bytes p) ≡ 16
unfolding page_bytes
length-page p = simp (length-append, length-le)

pub length-plan : (ps : List Page) → length (plan_bytes ps) ≡ 16 * length ps
unfolding plan_bytes
length-plan [] = omega arith
length-plan (p ∷ ps) = length-append (page_bytes p) (plan_bytes ps) ∙ omega (arith, length-page p, length-plan ps)

pub length-pages_of : (handoff : ℕ) (s : Section) → length (pages_of handoff s) ≡ page_count s
unfolding pages_of
length-pages_of handoff s = length-up_to (page_of handoff s) (page_count s)

pub length-pages : (handoff : ℕ) (ss : List Section) → length (pages handoff ss) ≡ pages_in_all ss
unfolding pages pages_in_all
length-pages handoff [] = refl
length-pages handoff (s ∷ ss) =
    length-append (pages_of handoff s) (pages handoff ss) ∙ omega (arith, length-pages_of handoff s, length-pages handoff ss)

-- ---- one behind another

pub plan-append : (ps qs : List Page) → plan_bytes (ps ++ qs) ≡ plan_bytes ps ++ plan_bytes qs
unfolding plan_bytes
plan-append [] qs = refl
plan-append (p ∷ ps) qs = rw (plan-append ps qs) (sym (append_assoc (page_bytes p) (plan_bytes ps) (plan_bytes qs)))

pub plan-one : (p : Page) → plan_bytes (p ∷ []) ≡ page_bytes p
unfolding plan_bytes
plan-one p = append-nil (page_bytes p)

pub pages-append : (handoff : ℕ) (ss ts : List Section) → pages handoff (ss ++ ts) ≡ pages handoff ss ++ pages handoff ts
unfolding pages
pages-append handoff [] ts = refl
pages-append handoff (s ∷ ss) ts =
    rw (pages-append handoff ss ts) (sym (append_assoc (pages_of handoff s) (pages handoff ss) (pages handoff ts)))

pub pages-more : (handoff : ℕ) (ss : List Section) (s : Section) → pages handoff (ss ++ (s ∷ [])) ≡ pages handoff ss ++ pages_of handoff s
unfolding pages
pages-more handoff ss s = pages-append handoff ss (s ∷ []) ∙ ap (λ (l : List Page). pages handoff ss ++ l) (append-nil (pages_of handoff s))

-- ---- what the code writes

-- a second write right behind the first
behind : (b b' xs ys : List ℕ) (i j : ℕ) → i + length xs ≡ j → b' ≡ sets b i xs → sets b' j ys ≡ sets b i (xs ++ ys)
behind b b' xs ys i j l e = ap (λ (r : List ℕ). sets r j ys) e ∙ sets_then b xs ys i j l

-- the five fields of a record, one after the other
pub page-is : (p : Page) → (((le 8 p.address ++ le 4 p.offset) ++ le 2 p.length) ++ le 1 p.sort) ++ le 1 p.measured ≡ page_bytes p
unfolding page_bytes
page-is p = simp append_assoc

-- the records of more pages, behind those of some
pub plan-is : (b b₁ b₂ : List ℕ) (at next : ℕ) (ps qs : List Page)
    → b₁ ≡ sets b at (plan_bytes ps) → at + 16 * length ps ≡ next → b₂ ≡ sets b₁ next (plan_bytes qs)
    → b₂ ≡ sets b at (plan_bytes (ps ++ qs))
plan-is b b₁ b₂ at next ps qs e₁ l e₂ =
    e₂
    ∙ behind b b₁ (plan_bytes ps) (plan_bytes qs) at next (omega (arith, length-plan ps, l)) e₁
    ∙ ap (λ (r : List ℕ). sets b at r) (sym (plan-append ps qs))

-- ---- a turn of the loop over a section's pages

pub page-none : (b : List ℕ) (at : ℕ) (f : ℕ → Page) → b ≡ sets b at (plan_bytes (up_to f 0))
unfolding plan_bytes in_turn
page-none b at f = refl

pub page-turn : (b b₁ b₂ : List ℕ) (at next k : ℕ) (f : ℕ → Page) (p : Page)
    → b₁ ≡ sets b at (plan_bytes (up_to f k)) → next ≡ at + 16 * k → p ≡ f k → b₂ ≡ sets b₁ next (page_bytes p)
    → b₂ ≡ sets b at (plan_bytes (up_to f (k + 1)))
page-turn b b₁ b₂ at next k f p e₁ n e e₂ =
    plan-is b b₁ b₂ at next (up_to f k) (f k ∷ []) e₁ (omega (arith, n, length-up_to f k))
    (e₂ ∙ ap (λ (q : Page). sets b₁ next (page_bytes q)) e ∙ ap (λ (r : List ℕ). sets b₁ next r) (sym (plan-one (f k))))
    ∙ ap (λ (ps : List Page). sets b at (plan_bytes ps)) (sym (up_to-more f k))

-- ---- a turn of the loop over the sections

pub section-none : (b : List ℕ) (handoff : ℕ) → b ≡ sets b 0 (plan_bytes (pages handoff []))
unfolding plan_bytes pages
section-none b handoff = refl

pub section-turn : (b b₁ b₂ : List ℕ) (handoff next : ℕ) (ss : List Section) (s : Section)
    → b₁ ≡ sets b 0 (plan_bytes (pages handoff ss)) → next ≡ 16 * pages_in_all ss
    → b₂ ≡ sets b₁ next (plan_bytes (pages_of handoff s))
    → b₂ ≡ sets b 0 (plan_bytes (pages handoff (ss ++ (s ∷ []))))
section-turn b b₁ b₂ handoff next ss s e₁ n e₂ =
    plan-is b b₁ b₂ 0 next (pages handoff ss) (pages_of handoff s) e₁ (omega (arith, n, length-pages handoff ss)) e₂
    ∙ ap (λ (ps : List Page). sets b 0 (plan_bytes ps)) (sym (pages-more handoff ss s))

pub count_none : pages_in_all [] ≡ 0
unfolding pages_in_all
count_none = refl

pub count_next : (s : Section) (ss : List Section) → pages_in_all (s ∷ ss) ≡ page_count s + pages_in_all ss
unfolding pages_in_all
count_next s ss = refl
