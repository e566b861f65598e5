-- The descriptor of an image: what is read of it in its own bytes, in the part of the image that starts at it, and in the
-- fields that the rules see; where it is, and what is known where it is found. Assumes nothing.
use mathlib.Core.Path.{◌≡◌, refl, sym, ap, ap₂, subst, ◌∙◌}
use mathlib.Core.Bool.{Bool, true, false, not, ◌||◌}
use mathlib.Core.List.{List, [], ◌∷◌}
use Prim.Native.Nat.{ℕ, ◌+◌, ◌-◌, ◌*◌, ◌≤◌, ◌<◌, min}
use native.Mathlib.Omega.{arith}
use borrow.Author.Tests.{ltb-false, lt-ltb, le-ltb, eqb-true, eqb-false, not-false, ne_eqb, eq-eqb}
use lib.Dec.{ltb, eqb}
use lib.ListN.{length, take, drop, length-drop}
use lib.Seq.{take_all}
use Rattle.std.specs.Prelude.{Ok, Err}
use Rattle.wire.specs.Number.{number_at}
use Rattle.wire.proofs.Number.{number_at-take}
use Rattle.verdict.specs.declared.Place.TheVariants.{Nowhere}
use Rattle.verdict.specs.declared.Refusal.{Refusal}
use Rattle.verdict.specs.declared.Refusal.TheVariants.{Offset}
use Rattle.verdict.specs.Refusal.{refusal_of}
use Rattle.verdict.specs.Rules.{rule, judge}
use Rattle.verdict.specs.Turns.{up_to}
use Rattle.verdict.proofs.Turns.{turn-same}
use Rattle.verdict.proofs.Rules.{judge-broken, and-found, and-missed}
use Rattle.tdvf.specs.declared.Section.{Section}
use Rattle.tdvf.specs.declared.Located.{Located}
use Rattle.tdvf.specs.Image.{Fields, offset_word, section_count, descriptor_at, fields_of, signature, length_field, version, section_at, sections, offset_broken, signature_broken, version_broken, descriptor_broken, descriptor_rules, located}
use Rattle.tdvf.specs.Part.{part_of}
use Rattle.tdvf.proofs.Kept.{kept-front}
use Rattle.tdvf.proofs.Tried.{ltb-same, or-neither}

-- ---- what is read of the descriptor

-- a number in the first 16 bytes
at_front : (n at : ℕ) (image : List ℕ) (D : ℕ) → at + n ≤ 16 → number_at n (descriptor_at image D) at ≡ number_at n (drop D image) at
unfolding descriptor_at
at_front n at image D h = number_at-take n (16 + 32 * min 32 (section_count (drop D image))) (drop D image) at (omega arith)

pub count-from : (image : List ℕ) (D : ℕ) → section_count (descriptor_at image D) ≡ section_count (drop D image)
unfolding section_count
count-from image D = at_front 4 12 image D (omega arith)

-- a number in the 32 bytes of section k
at-section : (n at : ℕ) (image : List ℕ) (D k : ℕ) → k < section_count (drop D image) → section_count (drop D image) ≤ 32 → at + n ≤ 16 + 32 * k + 32
    → number_at n (descriptor_at image D) at ≡ number_at n (drop D image) at
unfolding descriptor_at
at-section n at image D k l h b = number_at-take n (16 + 32 * min 32 (section_count (drop D image))) (drop D image) at (omega arith)

pub section-from : (image : List ℕ) (D k : ℕ) → k < section_count (drop D image) → section_count (drop D image) ≤ 32
    → section_at (descriptor_at image D) k ≡ section_at (drop D image) k
unfolding section_at
section-from image D k l h =
    cc (
      at-section 4 (16 + 32 * k) image D k l h (omega arith),
      at-section 4 (16 + 32 * k + 4) image D k l h (omega arith),
      at-section 8 (16 + 32 * k + 8) image D k l h (omega arith),
      at-section 8 (16 + 32 * k + 16) image D k l h (omega arith),
      at-section 4 (16 + 32 * k + 24) image D k l h (omega arith),
      at-section 4 (16 + 32 * k + 28) image D k l h (omega arith),
    )

-- the same of the fields that the rules see
pub fields-length : (image : List ℕ) → (fields_of image).length ≡ length image
unfolding fields_of
fields-length image = refl

pub fields-offset : (image : List ℕ) → (fields_of image).offset ≡ offset_word image
unfolding fields_of
fields-offset image = refl

pub fields-count : (image : List ℕ) → section_count (fields_of image).descriptor ≡ section_count (drop (offset_word image) image)
unfolding fields_of
fields-count image = count-from image (offset_word image)

pub fields-section : (image : List ℕ) (k : ℕ) → k < section_count (fields_of image).descriptor → section_count (fields_of image).descriptor ≤ 32
    → section_at (fields_of image).descriptor k ≡ section_at (drop (offset_word image) image) k
unfolding fields_of
fields-section image k l h =
    section-from image (offset_word image) k (omega (arith, fields-count image)) (omega (arith, fields-count image))

pub fields-sections : (image : List ℕ) → section_count (fields_of image).descriptor ≤ 32
    → sections (fields_of image) ≡ up_to (section_at (drop (offset_word image) image)) (section_count (fields_of image).descriptor)
unfolding sections
fields-sections image h =
    turn-same (λ i. section_at (fields_of image).descriptor i ∷ []) (λ i. section_at (drop (offset_word image) image) i ∷ [])
    (section_count (fields_of image).descriptor) (λ i l. ap (λ (s : Section). s ∷ []) (fields-section image i l h))

-- ---- the part that starts at the descriptor, as an image of its own

module _ (image : List ℕ) (h : offset_word image + 16 ≤ length image - 32) where
  abbrev part : Fields
  part = part_of (length image - 32 - offset_word image) (drop (offset_word image) image)

  part-offset : offset_broken part ≡ offset_broken (fields_of image)
  unfolding offset_broken fields_of
  part-offset = le-ltb (length image - 32 - offset_word image + 32 - 32) (0 + 16) (omega arith) ∙ sym (le-ltb (length image - 32) (offset_word image + 16) (omega arith))

  part-signature : signature_broken part ≡ signature_broken (fields_of image)
  unfolding signature_broken fields_of
  part-signature = rw (at_front 4 0 image (offset_word image) (omega arith))

  part-version : version_broken part ≡ version_broken (fields_of image)
  unfolding version_broken version fields_of
  part-version = rw (at_front 4 8 image (offset_word image) (omega arith))

  part-descriptor : descriptor_broken part ≡ descriptor_broken (fields_of image)
  unfolding descriptor_broken length_field fields_of
  part-descriptor =
      let D = offset_word image in
      let n = section_count (drop D image) in
      let field = number_at 4 (drop D image) 4 in
      ap (λ (over : Bool). eqb n 0 || ltb 32 n || not (eqb field (16 + 32 * n)) || over)
      (ltb-same (length image - 32 - D + 32 - 32) (0 + (16 + 32 * n)) (length image - 32) (D + (16 + 32 * n)) (λ l. omega arith) (λ l. omega arith))
      ∙ ap₂ (λ (m f : ℕ). eqb m 0 || ltb 32 m || not (eqb f (16 + 32 * m)) || ltb (length image - 32) (D + (16 + 32 * m)))
      (sym (count-from image D)) (sym (at_front 4 4 image D (omega arith)))

  pub part-judged : judge (descriptor_rules part) ≡ judge (descriptor_rules (fields_of image))
  unfolding descriptor_rules
  part-judged = cc (part-offset, part-signature, part-version, part-descriptor)

-- its rules 5 to 7, as the code tries them
module _ (room : ℕ) (d : List ℕ) where
  pub room-kept : 16 ≤ room → offset_broken (part_of room d) ≡ false
  unfolding offset_broken
  room-kept h = le-ltb (room + 32 - 32) (0 + 16) (omega arith)

  pub signature-kept : number_at 4 d 0 ≡ 0x46564454 → signature_broken (part_of room d) ≡ false
  unfolding signature_broken signature number_at
  signature-kept e = ap not (eq-eqb (number_at 4 d 0) 0x46564454 e)

  pub signature-broken : (number_at 4 d 0 ≡ 0x46564454 → ⊥) → signature_broken (part_of room d) ≡ true
  unfolding signature_broken signature number_at
  signature-broken h = ap not (ne_eqb (number_at 4 d 0) 0x46564454 h)

  pub version-kept : number_at 4 d 8 ≡ 1 → version_broken (part_of room d) ≡ false
  unfolding version_broken version
  version-kept e = ap not (eq-eqb (number_at 4 d 8) 1 e)

  pub version-broken : (number_at 4 d 8 ≡ 1 → ⊥) → version_broken (part_of room d) ≡ true
  unfolding version_broken version
  version-broken h = ap not (ne_eqb (number_at 4 d 8) 1 h)

-- the slice from d on, with as many elements as are left, is the part
pub from-there : (image : List ℕ) (d : ℕ) → take (length image - d) (drop d image) ≡ drop d image
from-there image d = take_all (length image - d) (drop d image) (omega (arith, length-drop d image))

pub handed-on : (image : List ℕ) (d : ℕ) → d ≡ offset_word image → d + 16 ≤ length image - 32
    → judge (descriptor_rules (part_of (length image - 32 - d) (take (length image - d) (drop d image)))) ≡ judge (descriptor_rules (fields_of image))
handed-on image d e h =
    ap (λ (l : List ℕ). judge (descriptor_rules (part_of (length image - 32 - d) l))) (from-there image d)
    ∙ ap (λ (k : ℕ). judge (descriptor_rules (part_of (length image - 32 - k) (drop k image)))) e
    ∙ part-judged image (omega arith)

pub counted-on : (image : List ℕ) (d : ℕ) → d ≡ offset_word image
    → section_count (take (length image - d) (drop d image)) ≡ section_count (fields_of image).descriptor
counted-on image d e =
    ap section_count (from-there image d) ∙ ap (λ (k : ℕ). section_count (drop k image)) e ∙ sym (fields-count image)

-- rule 5, as the code tries it
pub offset-broken : (image : List ℕ) (d : ℕ) → d ≡ offset_word image → length image - 32 < d + 16 → offset_broken (fields_of image) ≡ true
unfolding offset_broken fields_of
offset-broken image d e h = lt-ltb (length image - 32) (offset_word image + 16) (omega arith)

-- ---- where the descriptor is

-- a descriptor at d with n sections
abbrev pub at : ℕ → ℕ → Located
at d n = record { offset = d; count = n }

pub located-found : (f : Fields) → judge (descriptor_rules f) ≡ Ok tt → located f ≡ Ok (at f.offset (section_count f.descriptor))
unfolding located
located-found f e = rw e

pub located-refused : (f : Fields) (r : Refusal) → judge (descriptor_rules f) ≡ Err r → located f ≡ Err r
unfolding located
located-refused f r e = rw e

pub located-offset : (f : Fields) → offset_broken f ≡ true → located f ≡ Err (Offset Nowhere)
unfolding descriptor_rules refusal_of
located-offset f e =
    let rs = rule 6 Nowhere (signature_broken f) ∷ rule 7 Nowhere (version_broken f) ∷ rule 8 Nowhere (descriptor_broken f) ∷ [] in
    located-refused f (Offset Nowhere) (judge-broken (rule 5 Nowhere (offset_broken f)) rs e)

-- what is known of a descriptor that is found
pub record Found (f : Fields) (d n : ℕ) : Type 0 where
  pub start : d ≡ f.offset
  pub count : n ≡ section_count f.descriptor
  pub some : 1 ≤ n
  pub few : n ≤ 32
  pub length : length_field f.descriptor ≡ 16 + 32 * n
  pub end : f.offset + (16 + 32 * n) ≤ f.length - 32
  pub kept : judge (descriptor_rules f) ≡ Ok tt

-- rule 8 is kept
whole : (f : Fields) → descriptor_broken f ≡ false → judge (descriptor_rules f) ≡ Ok tt → Found f f.offset (section_count f.descriptor)
unfolding descriptor_broken
whole f e kept =
    let n = section_count f.descriptor in
    let field = length_field f.descriptor in
    let last = or-neither (eqb n 0 || ltb 32 n || not (eqb field (16 + 32 * n))) (ltb (f.length - 32) (f.offset + (16 + 32 * n))) e in
    let long = or-neither (eqb n 0 || ltb 32 n) (not (eqb field (16 + 32 * n))) last.first in
    let many = or-neither (eqb n 0) (ltb 32 n) long.first in
    let z : n ≡ 0 → ⊥ = eqb-false n 0 many.first in
    record {
      start = refl;
      count = refl;
      some = omega arith;
      few = ltb-false 32 n many.second;
      length = eqb-true field (16 + 32 * n) (not-false (eqb field (16 + 32 * n)) long.second);
      end = ltb-false (f.length - 32) (f.offset + (16 + 32 * n)) last.second;
      kept = kept;
    }

descriptor-kept : (f : Fields) → judge (descriptor_rules f) ≡ Ok tt → descriptor_broken f ≡ false
unfolding descriptor_rules
descriptor-kept f e =
    let r5 = kept-front _ _ e in
    let r6 = kept-front _ _ r5.rest in
    let r7 = kept-front _ _ r6.rest in
    (kept-front _ _ r7.rest).first

pub located-at : (f : Fields) (d n : ℕ) → located f ≡ Ok (at d n) → Found f d n
unfolding located
located-at f d n e =
    let both = and-found (judge (descriptor_rules f)) (at f.offset (section_count f.descriptor)) (at d n) e in
    subst (λ (l : Located). Found f l.offset l.count) both.1 (whole f (descriptor-kept f both.0) both.0)

-- and of one that is not
pub located-missed : (f : Fields) (r : Refusal) → located f ≡ Err r → judge (descriptor_rules f) ≡ Err r
unfolding located
located-missed f r e = and-missed (judge (descriptor_rules f)) (at f.offset (section_count f.descriptor)) r e
