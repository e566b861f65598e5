-- The stages of the checks, held against the launch's own rules. Assumes nothing.
use mathlib.Core.Path.{◌≡◌, refl, sym, ap, ◌∙◌}
use mathlib.Core.Bool.{Bool, true, false, not, ◌||◌}
use mathlib.Core.List.{List, [], ◌∷◌, ◌++◌}
use Prim.Native.Nat.{ℕ, ◌+◌, ◌-◌, ◌<◌}
use native.Mathlib.Omega.{arith}
use lib.Dec.{leb}
use Rattle.std.specs.Prelude.{Option, None, Some, Ok, Err}
use Rattle.verdict.specs.declared.Place.TheVariants as place
use Rattle.verdict.specs.declared.Refusal.{Refusal}
use Rattle.verdict.specs.declared.Refusal.TheVariants as is
use Rattle.verdict.specs.Refusal.{refusal_of}
use Rattle.verdict.specs.Turns.{in_turn, up_to}
use Rattle.verdict.specs.Rules.{Verdict, judge}
use Rattle.verdict.proofs.Turns.{turn-add, up_to-none, up_to-more}
use Rattle.verdict.proofs.Rules.{judge-none, judge-kept, judge-broken, judge-then, judge-refused, refused-kept, turns-stop}
use Rattle.memory.specs.Map.{records, ram_or, inside, lies}
use Rattle.memory.proofs.Inside.{lies-inside}
use Rattle.tdvf.specs.declared.Section.{Section}
use Rattle.tdvf.specs.Image.{Fields, section_at}
use Rattle.tdvf.specs.Section.{kind_allowed, image_rules, shares, shared_broken}
use Rattle.tdvf.proofs.Shares.{shared-none, shared-append, shared-more}
use Rattle.launch.specs.Host.{Host}
use Rattle.launch.specs.Rules.{outside_broken, section_rules}

-- ---- the rules of one section

module _ (h : Host) (f : Fields) (k : ℕ) where
  abbrev this : Section
  this = section_at f.descriptor k

  -- the first of rules 9 to 13 is the section's first
  pub row-image : (r : Refusal) → judge (image_rules f.length this k) ≡ Err r → judge (section_rules h f k) ≡ Err r
  unfolding section_rules
  row-image r e = judge-refused (image_rules f.length this k) _ r e

  module _ (own : judge (image_rules f.length this k) ≡ Ok tt) where
    pub row-outside : outside_broken h this ≡ true → judge (section_rules h f k) ≡ Err (is.Outside (place.Section k))
    unfolding section_rules refusal_of
    row-outside e = judge-then (image_rules f.length this k) _ own ∙ judge-broken _ _ e

    module _ (inside : outside_broken h this ≡ false) where
      pub row_shared : shared_broken (up_to (section_at f.descriptor) k) this ≡ true → judge (section_rules h f k) ≡ Err (is.Shared (place.Section k))
      unfolding section_rules refusal_of
      row_shared e = judge-then (image_rules f.length this k) _ own ∙ judge-kept _ _ inside ∙ judge-broken _ _ e

      pub row_kept : shared_broken (up_to (section_at f.descriptor) k) this ≡ false → judge (section_rules h f k) ≡ Ok tt
      unfolding section_rules
      row_kept e = judge-then (image_rules f.length this k) _ own ∙ judge-kept _ _ inside ∙ judge-kept _ _ e ∙ judge-none

-- where the section lies
module _ (h : Host) (s : Section) where
  pub lies-outside : lies (ram_or (leb s.sort 1)) (records h.map) 0 s.address s.size ≡ None → outside_broken h s ≡ true
  unfolding outside_broken kind_allowed
  lies-outside e = rw ((lies-inside (ram_or (leb s.sort 1)) s.address s.size (records h.map) 0).0 e)

  pub lies_within : (lies (ram_or (leb s.sort 1)) (records h.map) 0 s.address s.size ≡ None → ⊥) → outside_broken h s ≡ false
  unfolding outside_broken kind_allowed
  lies_within n = by (inside (ram_or (leb s.sort 1)) (records h.map) s.address s.size) refl
    where
      by : (b : Bool) → inside (ram_or (leb s.sort 1)) (records h.map) s.address s.size ≡ b → not b ≡ false
      by true e = refl
      by false e = absurd (n ((lies-inside (ram_or (leb s.sort 1)) s.address s.size (records h.map) 0).1 e))

-- ---- the earlier sections, one more

module _ (d : List ℕ) (j : ℕ) (s : Section) (before : shared_broken (up_to (section_at d) j) s ≡ false) where
  shared-next : shared_broken (up_to (section_at d) (j + 1)) s ≡ shares (section_at d j) s
  shared-next =
      ap (λ (ss : List Section). shared_broken ss s) (up_to-more (section_at d) j)
      ∙ shared-more (up_to (section_at d) j) (section_at d j) s
      ∙ ap (λ (b : Bool). b || shares (section_at d j) s) before

  pub apart_more : shares (section_at d j) s ≡ false → shared_broken (up_to (section_at d) (j + 1)) s ≡ false
  apart_more e = shared-next ∙ e

  -- a section that is met stays met, however many come behind it
  pub met-among : (k : ℕ) → j < k → shares (section_at d j) s ≡ true → shared_broken (up_to (section_at d) k) s ≡ true
  met-among k h e =
      let met : shared_broken (up_to (section_at d) (j + 1)) s ≡ true = shared-next ∙ e in
      let rest : List Section = up_to (λ i. section_at d (j + 1 + i)) (k - (j + 1)) in
      let whole : up_to (section_at d) k ≡ up_to (section_at d) (j + 1) ++ rest =
      ap (λ (n : ℕ). up_to (section_at d) n) (omega arith) ∙ turn-add (λ i. section_at d i ∷ []) (j + 1) (k - (j + 1)) in
      ap (λ (ss : List Section). shared_broken ss s) whole
      ∙ shared-append (up_to (section_at d) (j + 1)) rest s
      ∙ ap (λ (b : Bool). b || shared_broken rest s) met

pub apart_none : (d : List ℕ) (s : Section) → shared_broken (up_to (section_at d) 0) s ≡ false
apart_none d s = ap (λ (ss : List Section). shared_broken ss s) (up_to-none (section_at d)) ∙ shared-none s

-- ---- a section as the code has it: read from the descriptor, tried, and looked up in the map

module _ (h : Host) (f : Fields) (k : ℕ) (s : Section) (read : s ≡ section_at f.descriptor k) where
  pub own_is : (own : Verdict) → own ≡ judge (image_rules f.length s k) → own ≡ judge (image_rules f.length (section_at f.descriptor k) k)
  own_is own e = e ∙ ap (λ (t : Section). judge (image_rules f.length t k)) read

  module _ (firmware : Bool) (allowed : firmware ≡ leb s.sort 1) (l : Option ℕ)
      (found : l ≡ lies (ram_or firmware) (records h.map) 0 s.address s.size) where
    abbrev where-is : Section → Option ℕ
    where-is t = lies (ram_or (leb t.sort 1)) (records h.map) 0 t.address t.size

    found-is : l ≡ where-is (section_at f.descriptor k)
    found-is = found ∙ ap (λ (b : Bool). lies (ram_or b) (records h.map) 0 s.address s.size) allowed ∙ ap where-is read

    pub not-inside : l ≡ None → outside_broken h (section_at f.descriptor k) ≡ true
    not-inside e = lies-outside h (section_at f.descriptor k) (sym found-is ∙ e)

    pub is-inside : (i : ℕ) → l ≡ Some i → outside_broken h (section_at f.descriptor k) ≡ false
    is-inside i e = lies_within h (section_at f.descriptor k) (λ n. let z : ◌≡◌ {A = ℕ} 0 1 = cc in omega arith)

-- the first section that breaks a rule answers for all
pub stops_at : (h : Host) (f : Fields) (k count : ℕ) (r : Refusal) → judge (in_turn (section_rules h f) k) ≡ Ok tt → k < count
    → judge (section_rules h f k) ≡ Err r → Err r ≡ judge (in_turn (section_rules h f) count)
stops_at h f k count r before l e =
    sym e ∙ sym (turns-stop (section_rules h f) k count before l (λ z. refused-kept (sym e ∙ z)))
