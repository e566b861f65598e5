-- A plan's records read back: page i of the bytes is page i of the plan, and the pages of sections that fit have fields that fit.
-- Assumes nothing.
use mathlib.Core.Path.{◌≡◌, refl, ◌∙◌}
use mathlib.Core.List.{List, [], ◌∷◌, ◌++◌, append_assoc, Memᴰ}
use Prim.Native.Nat.{ℕ, zero, suc, ◌+◌, ◌*◌, ◌^◌, ◌≤◌, ◌<◌}
use native.Mathlib.Omega.{arith}
use lib.ListN.{length, get_or}
use Rattle.wire.specs.Number.{le, number_at}
use Rattle.wire.proofs.Digits.{length-le}
use Rattle.wire.proofs.Number.{number_at-seam}
use Rattle.wire.proofs.Inverse.{number_at-front}
use Rattle.verdict.specs.Turns.{up_to}
use Rattle.verdict.proofs.Each.{Each, each_none, each-cons, each_append, each-up_to}
use Rattle.tdvf.specs.declared.Section.{Section}
use Rattle.tdvf.specs.Section.{page_count, pages_in_all}
use Rattle.plan.specs.declared.Page.{Page}
use Rattle.plan.specs.declared.Source.{Source}
use Rattle.plan.specs.Plan.{Fits, source_of, page_of, pages_of, pages, page_bytes, plan_bytes, page_at}
use Rattle.plan.proofs.Records.{length-page, length-pages}
use Rattle.plan.proofs.Share.{source-end, length_most, offset-below}

-- the fields of a record hold a page's numbers whole
pub record Sized (p : Page) : Type 0 where
  pub address : p.address < 2 ^ 64
  pub offset : p.offset < 2 ^ 32
  pub length : p.length < 2 ^ 16
  pub sort : p.sort < 256
  pub measured : p.measured < 256

module _ (p : Page) (rest : List ℕ) where
  fields : page_bytes p ++ rest ≡ le 8 p.address ++ (le 4 p.offset ++ (le 2 p.length ++ (le 1 p.sort ++ (le 1 p.measured ++ rest))))
  unfolding page_bytes
  fields = simp append_assoc

  pub page-front : Sized p → page_at (page_bytes p ++ rest) 0 ≡ p
  unfolding page_at
  page-front h =
      let r₄ : List ℕ = le 1 p.measured ++ rest in
      let r₃ : List ℕ = le 1 p.sort ++ r₄ in
      let r₂ : List ℕ = le 2 p.length ++ r₃ in
      let r₁ : List ℕ = le 4 p.offset ++ r₂ in
      let r : List ℕ = le 8 p.address ++ r₁ in
      let skip : (n i j : ℕ) → 8 + i ≡ j → number_at n r j ≡ number_at n r₁ i = λ n i j e. number_at-seam n (le 8 p.address) r₁ i j (omega (arith, length-le 8 p.address)) in
      let skip₁ : (n i j : ℕ) → 4 + i ≡ j → number_at n r₁ j ≡ number_at n r₂ i = λ n i j e. number_at-seam n (le 4 p.offset) r₂ i j (omega (arith, length-le 4 p.offset)) in
      let skip₂ : (n i j : ℕ) → 2 + i ≡ j → number_at n r₂ j ≡ number_at n r₃ i = λ n i j e. number_at-seam n (le 2 p.length) r₃ i j (omega (arith, length-le 2 p.length)) in
      let skip₃ : number_at 1 r₃ 1 ≡ number_at 1 r₄ 0 = number_at-seam 1 (le 1 p.sort) r₄ 0 1 (omega (arith, length-le 1 p.sort)) in
      let a : number_at 8 r 0 ≡ p.address = number_at-front 8 p.address r₁ h.address in
      let o : number_at 4 r 8 ≡ p.offset = skip 4 0 8 (omega arith) ∙ number_at-front 4 p.offset r₂ h.offset in
      let l : number_at 2 r 12 ≡ p.length = skip 2 4 12 (omega arith) ∙ skip₁ 2 0 4 (omega arith) ∙ number_at-front 2 p.length r₃ h.length in
      let s : number_at 1 r 14 ≡ p.sort = skip 1 6 14 (omega arith) ∙ skip₁ 1 2 6 (omega arith) ∙ skip₂ 1 0 2 (omega arith) ∙ number_at-front 1 p.sort r₄ h.sort in
      let m : number_at 1 r 15 ≡ p.measured =
      skip 1 7 15 (omega arith) ∙ skip₁ 1 3 7 (omega arith) ∙ skip₂ 1 1 3 (omega arith) ∙ skip₃ ∙ number_at-front 1 p.measured rest h.measured in
      rw (fields, a, o, l, s, m)

  -- the records behind the first
  pub page-behind : (i : ℕ) → page_at (page_bytes p ++ rest) (suc i) ≡ page_at rest i
  unfolding page_at
  page-behind i =
      let at : (n k : ℕ) → number_at n (page_bytes p ++ rest) (16 * suc i + k) ≡ number_at n rest (16 * i + k) =
      λ n k. number_at-seam n (page_bytes p) rest (16 * i + k) (16 * suc i + k) (omega (arith, length-page p)) in
      let first : number_at 8 (page_bytes p ++ rest) (16 * suc i) ≡ number_at 8 rest (16 * i) =
      number_at-seam 8 (page_bytes p) rest (16 * i) (16 * suc i) (omega (arith, length-page p)) in
      rw (first, at 4 8, at 2 12, at 1 14, at 1 15)

-- THE THEOREM: a plan's bytes, whatever follows them, hold the plan's pages
pub read_back : (ps : List Page) (rest : List ℕ) (i : ℕ) (d : Page) → i < length ps → Sized (get_or ps i d) → page_at (plan_bytes ps ++ rest) i ≡ get_or ps i d
unfolding plan_bytes
read_back [] rest i d h z = absurd (omega arith)
read_back (p ∷ ps) rest zero d h z = rw append_assoc (page-front p (plan_bytes ps ++ rest) z)
read_back (p ∷ ps) rest (suc i) d h z =
    rw append_assoc (page-behind p (plan_bytes ps ++ rest) i ∙ read_back ps rest i d (omega arith) z)

-- ---- the pages of sections that fit

pub page-sized : (handoff : ℕ) (s : Section) (k : ℕ) → Fits s → handoff ≤ 2 ^ 32 → k < page_count s → Sized (page_of handoff s k)
unfolding page_of
page-sized handoff s k fits list h =
    let d : Source = source_of handoff s in
    record {
      address = omega (arith, fits.low);
      offset = offset-below d k (2 ^ 32) (omega arith) (source-end handoff s (2 ^ 32) (omega (arith, fits.inside)) list);
      length = omega (arith, length_most d k);
      sort = omega (arith, fits.known);
      measured = omega arith;
    }

pub in_list : (ps : List Page) (i : ℕ) (d : Page) → i < length ps → Memᴰ (get_or ps i d) ps
in_list [] i d h = absurd (omega arith)
in_list (p ∷ ps) zero d h = Memᴰ.head refl
in_list (p ∷ ps) (suc i) d h = Memᴰ.tail (in_list ps i d (omega arith))

-- what holds of each page of each section holds of each page of the plan
pub each-page : (P : Page → Type 0) (handoff : ℕ) (ss : List Section) → Each (λ s. (k : ℕ) → k < page_count s → P (page_of handoff s k)) ss
    → Each P (pages handoff ss)
unfolding pages pages_of
each-page P handoff [] each = each_none P
each-page P handoff (s ∷ ss) each =
    let both = (each-cons _ s ss).0 each in
    (each_append P (pages_of handoff s) (pages handoff ss)).1 ((each-up_to P (page_of handoff s) (page_count s)).1 both.0, each-page P handoff ss both.1)

module _ (handoff : ℕ) (list : handoff ≤ 2 ^ 32) where
  pub pages-sized : (ss : List Section) → Each Fits ss → Each Sized (pages handoff ss)
  pages-sized ss fits = each-page Sized handoff ss (λ s m k h. page-sized handoff s k (fits s m) list h)

  -- so a written plan is read back page by page
  pub plan-back : (f : ℕ → Section) (n : ℕ) (rest : List ℕ) (i : ℕ) (d : Page) → ((k : ℕ) → k < n → Fits (f k)) → i < pages_in_all (up_to f n)
      → page_at (plan_bytes (pages handoff (up_to f n)) ++ rest) i ≡ get_or (pages handoff (up_to f n)) i d
  plan-back f n rest i d fits h =
      let ps : List Page = pages handoff (up_to f n) in
      let below : i < length ps = omega (arith, length-pages handoff (up_to f n)) in
      read_back ps rest i d below
      (pages-sized (up_to f n) ((each-up_to Fits f n).1 fits) (get_or ps i d) (in_list ps i d below))
