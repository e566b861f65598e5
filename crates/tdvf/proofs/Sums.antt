-- The totals of sections, with one section more: how many are so, the pages in all, and the TD HOB section. Assumes nothing.
use mathlib.Core.Path.{◌≡◌, refl, sym, ap, subst, ◌∙◌}
use mathlib.Core.Bool.{Bool, true, false}
use mathlib.Core.Logic.{◌⊎◌, inl, inr}
use mathlib.Core.List.{List, [], ◌∷◌, ◌++◌, Memᴰ}
use Prim.Native.Nat.{ℕ, zero, suc, ◌+◌, ◌*◌, ◌/◌, ◌^◌, ◌≤◌}
use native.Mathlib.Omega.{arith}
use native.Mathlib.Numerals.{add-one}
use lib.ListN.{length}
use Rattle.wire.specs.Number.{Bytes}
use Rattle.wire.proofs.Number.{number_at-below}
use Rattle.verdict.specs.Turns.{in_turn, up_to}
use Rattle.verdict.proofs.Rules.{either}
use Rattle.tdvf.specs.declared.Section.{Section}
use Rattle.tdvf.specs.declared.Totals.{Totals}
use Rattle.tdvf.specs.Image.{section_at}
use Rattle.tdvf.specs.Section.{is_boot, is_handoff, how_many, page_count, pages_in_all, handoff_section, totals_of}

-- ---- how many are so

module _ (p : Section → Bool) where
  pub many-none : how_many p [] ≡ 0
  unfolding how_many
  many-none = refl

  pub many-cons-is : (s : Section) (ss : List Section) → p s ≡ true → how_many p (s ∷ ss) ≡ how_many p ss + 1
  unfolding how_many
  many-cons-is s ss e = rw e (sym (add-one (how_many p ss)))

  pub many-cons-not : (s : Section) (ss : List Section) → p s ≡ false → how_many p (s ∷ ss) ≡ how_many p ss
  unfolding how_many
  many-cons-not s ss e = rw e

  pub many-append : (xs ys : List Section) → how_many p (xs ++ ys) ≡ how_many p xs + how_many p ys
  many-append [] ys = omega (arith, many-none)
  many-append (x ∷ xs) ys = step (many-append xs ys) (either (p x))
    where
      step : how_many p (xs ++ ys) ≡ how_many p xs + how_many p ys → (p x ≡ true) ⊎ (p x ≡ false) → how_many p (x ∷ (xs ++ ys)) ≡ how_many p (x ∷ xs) + how_many p ys
      step below (inl e) = omega (arith, many-cons-is x (xs ++ ys) e, many-cons-is x xs e)
      step below (inr e) = omega (arith, many-cons-not x (xs ++ ys) e, many-cons-not x xs e)

  pub many-more-is : (ss : List Section) (s : Section) → p s ≡ true → how_many p (ss ++ (s ∷ [])) ≡ how_many p ss + 1
  many-more-is ss s e = omega (arith, many-append ss (s ∷ []), many-cons-is s [] e, many-none)

  pub many-more-not : (ss : List Section) (s : Section) → p s ≡ false → how_many p (ss ++ (s ∷ [])) ≡ how_many p ss
  many-more-not ss s e = omega (arith, many-append ss (s ∷ []), many-cons-not s [] e, many-none)

  pub many-length : (ss : List Section) → how_many p ss ≤ length ss
  many-length [] = omega (arith, many-none)
  many-length (s ∷ ss) = step (many-length ss) (either (p s))
    where
      step : how_many p ss ≤ length ss → (p s ≡ true) ⊎ (p s ≡ false) → how_many p (s ∷ ss) ≤ length (s ∷ ss)
      step below (inl e) = omega (arith, many-cons-is s ss e)
      step below (inr e) = omega (arith, many-cons-not s ss e)

-- ---- the pages in all

pub pages-append : (xs ys : List Section) → pages_in_all (xs ++ ys) ≡ pages_in_all xs + pages_in_all ys
unfolding pages_in_all
pages-append [] ys = omega arith
pages-append (x ∷ xs) ys = omega (arith, pages-append xs ys)

pub pages-more : (ss : List Section) (s : Section) → pages_in_all (ss ++ (s ∷ [])) ≡ pages_in_all ss + page_count s
unfolding pages_in_all
pages-more ss s = omega (arith, pages-append ss (s ∷ []))

-- a size of 64 bits is fewer than 2 ^ 52 pages
pub pages-few : (d : List ℕ) (n : ℕ) → Bytes d → pages_in_all (up_to (section_at d) n) ≤ n * 2 ^ 52
unfolding in_turn pages_in_all section_at
pages-few d zero b = omega arith
pages-few d (suc n) b =
    omega (arith, pages-more (up_to (section_at d) n) (section_at d n), pages-few d n b, number_at-below 8 d (16 + 32 * n + 16) b)

-- ---- the TD HOB section

handoff-is : (s : Section) (ss : List Section) → is_handoff s ≡ true → handoff_section (s ∷ ss) ≡ s
unfolding handoff_section
handoff-is s ss e = rw e

handoff-not : (s : Section) (ss : List Section) → is_handoff s ≡ false → handoff_section (s ∷ ss) ≡ handoff_section ss
unfolding handoff_section
handoff-not s ss e = rw e

-- a section that is none changes nothing
pub handoff-more-not : (ss : List Section) (s : Section) → is_handoff s ≡ false → handoff_section (ss ++ (s ∷ [])) ≡ handoff_section ss
handoff-more-not [] s e = handoff-not s [] e
handoff-more-not (x ∷ xs) s e = step (handoff-more-not xs s e) (either (is_handoff x))
  where
    step : handoff_section (xs ++ (s ∷ [])) ≡ handoff_section xs → (is_handoff x ≡ true) ⊎ (is_handoff x ≡ false) → handoff_section (x ∷ (xs ++ (s ∷ []))) ≡ handoff_section (x ∷ xs)
    step below (inl h) = handoff-is x (xs ++ (s ∷ [])) h ∙ sym (handoff-is x xs h)
    step below (inr h) = handoff-not x (xs ++ (s ∷ [])) h ∙ below ∙ sym (handoff-not x xs h)

-- behind sections of which none is one, it is the one
pub handoff-more-is : (ss : List Section) (s : Section) → how_many is_handoff ss ≡ 0 → is_handoff s ≡ true → handoff_section (ss ++ (s ∷ [])) ≡ s
handoff-more-is [] s n e = handoff-is s [] e
handoff-more-is (x ∷ xs) s n e = step (λ (m : how_many is_handoff xs ≡ 0). handoff-more-is xs s m e) (either (is_handoff x))
  where
    step : (how_many is_handoff xs ≡ 0 → handoff_section (xs ++ (s ∷ [])) ≡ s) → (is_handoff x ≡ true) ⊎ (is_handoff x ≡ false) → handoff_section (x ∷ (xs ++ (s ∷ []))) ≡ s
    step below (inl h) = absurd (omega (arith, many-cons-is is_handoff x xs h))
    step below (inr h) = handoff-not x (xs ++ (s ∷ [])) h ∙ below (omega (arith, many-cons-not is_handoff x xs h))

-- behind one that is there, it is not the first
pub handoff-more-stays : (ss : List Section) (s : Section) → (how_many is_handoff ss ≡ 0 → ⊥) → handoff_section (ss ++ (s ∷ [])) ≡ handoff_section ss
handoff-more-stays [] s n = absurd (n (many-none is_handoff))
handoff-more-stays (x ∷ xs) s n = step (λ (m : how_many is_handoff xs ≡ 0 → ⊥). handoff-more-stays xs s m) (either (is_handoff x))
  where
    step : ((how_many is_handoff xs ≡ 0 → ⊥) → handoff_section (xs ++ (s ∷ [])) ≡ handoff_section xs) → (is_handoff x ≡ true) ⊎ (is_handoff x ≡ false) → handoff_section (x ∷ (xs ++ (s ∷ []))) ≡ handoff_section (x ∷ xs)
    step below (inl h) = handoff-is x (xs ++ (s ∷ [])) h ∙ sym (handoff-is x xs h)
    step below (inr h) =
        handoff-not x (xs ++ (s ∷ [])) h ∙ below (λ m. n (many-cons-not is_handoff x xs h ∙ m)) ∙ sym (handoff-not x xs h)

-- where there is one, it is among the sections
pub handoff-among : (ss : List Section) → (how_many is_handoff ss ≡ 0 → ⊥) → Memᴰ (handoff_section ss) ss
handoff-among [] n = absurd (n (many-none is_handoff))
handoff-among (x ∷ xs) n = step (λ (m : how_many is_handoff xs ≡ 0 → ⊥). handoff-among xs m) (either (is_handoff x))
  where
    step : ((how_many is_handoff xs ≡ 0 → ⊥) → Memᴰ (handoff_section xs) xs) → (is_handoff x ≡ true) ⊎ (is_handoff x ≡ false) → Memᴰ (handoff_section (x ∷ xs)) (x ∷ xs)
    step below (inl h) = Memᴰ.head (handoff-is x xs h)
    step below (inr h) =
        subst (λ (s : Section). Memᴰ s (x ∷ xs)) (sym (handoff-not x xs h))
        (Memᴰ.tail (below (λ m. n (many-cons-not is_handoff x xs h ∙ m))))

-- ---- the totals

pub totals-none : totals_of [] ≡ record { boots = 0; handoffs = 0; pages = 0; address = 0; size = 0 }
unfolding totals_of how_many pages_in_all handoff_section
totals-none = refl

-- they are their parts
abbrev totals : ℕ → ℕ → ℕ → ℕ → ℕ → Totals
totals b h p a z = record { boots = b; handoffs = h; pages = p; address = a; size = z }

pub totals-made : (b h p a z : ℕ) (ss : List Section) → b ≡ how_many is_boot ss → h ≡ how_many is_handoff ss → p ≡ pages_in_all ss
    → a ≡ (handoff_section ss).address → z ≡ (handoff_section ss).size → totals b h p a z ≡ totals_of ss
unfolding totals_of
totals-made b h p a z ss eb eh ep ea ez = cc

pub record Parts (t : Totals) (ss : List Section) : Type 0 where
  pub boots : t.boots ≡ how_many is_boot ss
  pub handoffs : t.handoffs ≡ how_many is_handoff ss
  pub pages : t.pages ≡ pages_in_all ss
  pub address : t.address ≡ (handoff_section ss).address
  pub size : t.size ≡ (handoff_section ss).size

pub totals-parts : (t : Totals) (ss : List Section) → t ≡ totals_of ss → Parts t ss
unfolding totals_of
totals-parts t ss e =
    record {
      boots = ap (λ (u : Totals). u.boots) e;
      handoffs = ap (λ (u : Totals). u.handoffs) e;
      pages = ap (λ (u : Totals). u.pages) e;
      address = ap (λ (u : Totals). u.address) e;
      size = ap (λ (u : Totals). u.size) e;
    }

-- ---- one section more, of each type

module _ (t : Totals) (s : Section) (ss : List Section) (e : t ≡ totals_of ss) where
  pub counted-boot : is_boot s ≡ true → is_handoff s ≡ false
      → totals (t.boots + 1) t.handoffs (t.pages + s.size / 4096) t.address t.size ≡ totals_of (ss ++ (s ∷ []))
  counted-boot b h =
      let p = totals-parts t ss e in
      totals-made (t.boots + 1) t.handoffs (t.pages + s.size / 4096) t.address t.size (ss ++ (s ∷ []))
      (omega (arith, many-more-is is_boot ss s b))
      (omega (arith, many-more-not is_handoff ss s h))
      (omega (arith, pages-more ss s))
      (p.address ∙ sym (ap (λ (x : Section). x.address) (handoff-more-not ss s h)))
      (p.size ∙ sym (ap (λ (x : Section). x.size) (handoff-more-not ss s h)))

  pub counted-other : is_boot s ≡ false → is_handoff s ≡ false
      → totals t.boots t.handoffs (t.pages + s.size / 4096) t.address t.size ≡ totals_of (ss ++ (s ∷ []))
  counted-other b h =
      let p = totals-parts t ss e in
      totals-made t.boots t.handoffs (t.pages + s.size / 4096) t.address t.size (ss ++ (s ∷ []))
      (omega (arith, many-more-not is_boot ss s b))
      (omega (arith, many-more-not is_handoff ss s h))
      (omega (arith, pages-more ss s))
      (p.address ∙ sym (ap (λ (x : Section). x.address) (handoff-more-not ss s h)))
      (p.size ∙ sym (ap (λ (x : Section). x.size) (handoff-more-not ss s h)))

  pub counted-first : is_boot s ≡ false → is_handoff s ≡ true → t.handoffs ≡ 0
      → totals t.boots 1 (t.pages + s.size / 4096) s.address s.size ≡ totals_of (ss ++ (s ∷ []))
  counted-first b h n =
      let p = totals-parts t ss e in
      let none : how_many is_handoff ss ≡ 0 = omega arith in
      totals-made t.boots 1 (t.pages + s.size / 4096) s.address s.size (ss ++ (s ∷ []))
      (omega (arith, many-more-not is_boot ss s b))
      (omega (arith, many-more-is is_handoff ss s h))
      (omega (arith, pages-more ss s))
      (sym (ap (λ (x : Section). x.address) (handoff-more-is ss s none h)))
      (sym (ap (λ (x : Section). x.size) (handoff-more-is ss s none h)))

  pub counted-later : is_boot s ≡ false → is_handoff s ≡ true → (t.handoffs ≡ 0 → ⊥)
      → totals t.boots (t.handoffs + 1) (t.pages + s.size / 4096) t.address t.size ≡ totals_of (ss ++ (s ∷ []))
  counted-later b h n =
      let p = totals-parts t ss e in
      let some : how_many is_handoff ss ≡ 0 → ⊥ = λ m. n (p.handoffs ∙ m) in
      totals-made t.boots (t.handoffs + 1) (t.pages + s.size / 4096) t.address t.size (ss ++ (s ∷ []))
      (omega (arith, many-more-not is_boot ss s b))
      (omega (arith, many-more-is is_handoff ss s h))
      (omega (arith, pages-more ss s))
      (p.address ∙ sym (ap (λ (x : Section). x.address) (handoff-more-stays ss s some)))
      (p.size ∙ sym (ap (λ (x : Section). x.size) (handoff-more-stays ss s some)))
