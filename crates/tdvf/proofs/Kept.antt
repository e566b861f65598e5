-- What is known of a section where the image's rules are kept. Assumes nothing.
use mathlib.Core.Path.{◌≡◌, sym, ◌∙◌}
use mathlib.Core.Bool.{true, false, not}
use mathlib.Core.Logic.{◌⊎◌, inl, inr}
use mathlib.Core.List.{List, ◌∷◌}
use Prim.Native.Nat.{ℕ, ◌+◌, ◌%◌, ◌≤◌}
use native.Mathlib.Omega.{arith}
use borrow.Author.Tests.{ltb-false, leb-true, eqb-true, eqb-false, not-false}
use lib.Dec.{ltb, eqb}
use Rattle.std.specs.Prelude.{Ok}
use Rattle.verdict.specs.Rules.{Rule, judge}
use Rattle.verdict.proofs.Rules.{either, judge-kept, judge-refuses}
use Rattle.tdvf.specs.declared.Section.{Section}
use Rattle.tdvf.specs.Section.{attributes_allowed, sort_broken, attributes_broken, raw_broken, data_broken, memory_broken, image_rules}
use Rattle.tdvf.proofs.Tried.{Neither, or-neither, Both, and_both, raw-data, raw-none, attributes-other}

-- the first rule of a row that is kept, and the others
pub record Front (r : Rule) (rs : List Rule) : Type 0 where
  pub first : r.broken ≡ false
  pub rest : judge rs ≡ Ok tt

pub kept-front : (r : Rule) (rs : List Rule) → judge (r ∷ rs) ≡ Ok tt → Front r rs
kept-front r rs e = step (either r.broken)
  where
    step : (r.broken ≡ true) ⊎ (r.broken ≡ false) → Front r rs
    step (inl b) = absurd (judge-refuses r rs b e)
    step (inr k) = record { first = k; rest = sym (judge-kept r rs k) ∙ e }

-- ---- rule by rule

pub sort-kept : (s : Section) → sort_broken s ≡ false → s.sort ≤ 3
unfolding sort_broken
sort-kept s e = ltb-false 3 s.sort e

-- the table's attributes: 1 for a boot volume, 0 or 1 for a configuration volume, else 0
pub record Attributes (s : Section) : Type 0 where
  pub boot : s.sort ≡ 0 → s.attributes ≡ 1
  pub configuration : s.sort ≡ 1 → s.attributes ≤ 1
  pub other : 2 ≤ s.sort → s.attributes ≡ 0

pub attributes-kept : (s : Section) → attributes_broken s ≡ false → Attributes s
unfolding attributes_broken attributes_allowed
attributes-kept s e =
    let k : attributes_allowed s.sort s.attributes ≡ true = not-false _ e in
    record {
      boot = λ h. eqb-true s.attributes 1 (rw h at k);
      configuration = λ h. leb-true s.attributes 1 (rw h at k);
      other = λ h. eqb-true s.attributes 0 (sym (attributes-other s.sort s.attributes h) ∙ k);
    }

-- the table's raw size: there is data for a volume, and none, at offset 0, for the others
pub record Raw (s : Section) : Type 0 where
  pub volume : s.sort ≤ 1 → 1 ≤ s.raw
  pub none : 2 ≤ s.sort → s.raw ≡ 0
  pub nowhere : 2 ≤ s.sort → s.offset ≡ 0

pub raw-kept : (s : Section) → raw_broken s ≡ false → Raw s
raw-kept s e =
    record {
      volume = λ h. let n : s.raw ≡ 0 → ⊥ = eqb-false s.raw 0 (sym (raw-data s h) ∙ e) in omega arith;
      none = λ h. eqb-true s.raw 0 (both h).first;
      nowhere = λ h. eqb-true s.offset 0 (both h).second;
    }
  where
    both : 2 ≤ s.sort → Both (eqb s.raw 0) (eqb s.offset 0)
    both h = and_both _ _ (not-false _ (sym (raw-none s (omega arith)) ∙ e))

pub data-kept : (L : ℕ) (s : Section) → data_broken L s ≡ false → s.offset + s.raw ≤ L
unfolding data_broken
data-kept L s e = ltb-false L (s.offset + s.raw) e

pub record Memory (s : Section) : Type 0 where
  pub address : s.address % 4096 ≡ 0
  pub multiple : s.size % 4096 ≡ 0
  pub some : 1 ≤ s.size
  pub enough : s.raw ≤ s.size

pub memory_kept : (s : Section) → memory_broken s ≡ false → Memory s
unfolding memory_broken
memory_kept s e =
    let size : Neither _ _ = or-neither _ (ltb s.size s.raw) e in
    let zero : Neither _ _ = or-neither _ (eqb s.size 0) size.first in
    let both : Neither _ _ = or-neither (not (eqb (s.address % 4096) 0)) (not (eqb (s.size % 4096) 0)) zero.first in
    let z : s.size ≡ 0 → ⊥ = eqb-false s.size 0 zero.second in
    record {
      address = eqb-true (s.address % 4096) 0 (not-false _ both.first);
      multiple = eqb-true (s.size % 4096) 0 (not-false _ both.second);
      some = omega arith;
      enough = ltb-false s.size s.raw size.second;
    }

-- ---- rules 9 to 13

pub record ImageKept (L : ℕ) (s : Section) : Type 0 where
  pub sort : s.sort ≤ 3
  pub attributes : Attributes s
  pub raw : Raw s
  pub inside : s.offset + s.raw ≤ L
  pub memory : Memory s

pub image-kept : (L : ℕ) (s : Section) (k : ℕ) → judge (image_rules L s k) ≡ Ok tt → ImageKept L s
unfolding image_rules
image-kept L s k e =
    let r9 = kept-front _ _ e in
    let r10 = kept-front _ _ r9.rest in
    let r11 = kept-front _ _ r10.rest in
    let r12 = kept-front _ _ r11.rest in
    let r13 = kept-front _ _ r12.rest in
    record {
      sort = sort-kept s r9.first;
      attributes = attributes-kept s r10.first;
      raw = raw-kept s r11.first;
      inside = data-kept L s r12.first;
      memory = memory_kept s r13.first;
    }
