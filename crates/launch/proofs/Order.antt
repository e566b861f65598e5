-- The checks in the page's order: what the first stages show, and what the answer is where one of them is broken or all are kept.
-- Assumes nothing.
use mathlib.Core.Path.{◌≡◌, refl, sym, ap, ap₂, ◌∙◌}
use mathlib.Core.Bool.{true}
use mathlib.Core.List.{List, []}
use Prim.Native.Nat.{ℕ, ◌+◌, ◌-◌, ◌*◌, ◌≤◌, ◌<◌}
use native.Mathlib.Omega.{arith}
use lib.ListN.{length, take, drop, length-drop}
use lib.Seq.{take_all}
use borrow.Author.Tests.{ltb-false, not-false}
use Rattle.verdict.specs.declared.Refusal.{Refusal}
use Rattle.std.specs.Prelude.{Result, Ok, Err}
use Rattle.verdict.specs.Rules.{Verdict, judge}
use Rattle.verdict.specs.Turns.{up_to}
use Rattle.memory.specs.declared.Fault.{Fault}
use Rattle.memory.specs.declared.Width.{Width}
use Rattle.memory.specs.Map.{width_allowed, bits, record_at, map_tried, first_fault, fault_verdict, map_rules}
use Rattle.memory.proofs.First.{map-judged}
use Rattle.memory.proofs.Broken.{top-low}
use Rattle.memory.proofs.Kept.{kept_map}
use Rattle.verdict.proofs.Rules.{refused-kept}
use Rattle.tdvf.specs.Image.{Fields, fields_of, offset_word, section_count, section_at, sections, length_broken, descriptor_rules, located}
use Rattle.tdvf.proofs.Kept.{kept-front}
use Rattle.tdvf.proofs.Tried.{or-neither}
use Rattle.tdvf.proofs.Descriptor.{fields-length, fields-offset, fields-count, fields-section, Found, at, located-at}
use Rattle.handoff.specs.Pieces.{EndsFit}
use Rattle.launch.specs.Host.{Host, host_with, buffers_broken, width_broken}
use Rattle.launch.specs.Rules.{first_rules, verdict, checked}
use Rattle.launch.specs.Stages.{judged, fields_with, laid_out}
use Rattle.launch.proofs.Keeps.{ends-rows}
use Rattle.launch.proofs.Laid.{sections-same, laid_same}

-- ---- rules 1 to 3

pub first_any : (m : List ℕ) (w p q : ℕ) (f : Fields)
    → judge (first_rules (host_with [] w p q) (fields_with f.length 0 [])) ≡ judge (first_rules (host_with m w p q) f)
unfolding first_rules buffers_broken width_broken length_broken
first_any m w p q f = refl

pub record FirstKept (h : Host) (f : Fields) : Type 0 where
  pub plan : 65536 ≤ h.plan
  pub handoff : 8192 ≤ h.handoff
  pub width : width_allowed h.width ≡ true
  pub low : 32 ≤ f.length
  pub high : f.length ≤ 16777216

pub first-kept : (h : Host) (f : Fields) → judge (first_rules h f) ≡ Ok tt → FirstKept h f
unfolding first_rules buffers_broken width_broken length_broken
first-kept h f e =
    let a = kept-front _ _ e in
    let b = kept-front _ _ a.rest in
    let c = kept-front _ _ b.rest in
    let s = or-neither _ _ a.first in
    let l = or-neither _ _ c.first in
    record {
      plan = ltb-false h.plan 65536 s.first;
      handoff = ltb-false h.handoff 8192 s.second;
      width = not-false (width_allowed h.width) b.first;
      low = ltb-false f.length 32 l.first;
      high = ltb-false 16777216 f.length l.second;
    }

-- ---- the map

-- a map that is answered with no refusal has no fault
pub no-fault : (t : Result (Unit {0}) Fault) → fault_verdict t ≡ Ok tt → t ≡ Ok tt
no-fault (Ok u) e = refl
no-fault (Err t) e = absurd (refused-kept e)

pub ends-fit : (width : ℕ) (map : List ℕ) → width_allowed width ≡ true → first_fault (map_tried width map) ≡ Ok tt → EndsFit map
ends-fit width map w e =
    let k = kept_map width map e in
    record {
      few = k.count-high;
      low = λ i l. omega (arith, (k.each i l).end_low, top-low (record_at map i).kind width w);
    }

-- ---- the answers

module _ (h : Host) (f : Fields) where
  pub checked_refused : (r : Refusal) → verdict h f ≡ Err r → checked h f ≡ Err r
  unfolding checked
  checked_refused r e = rw e

  pub checked-laid : judge (first_rules h f) ≡ Ok tt → judge (map_rules h.width h.map) ≡ Ok tt → judge (descriptor_rules f) ≡ Ok tt
      → checked h f ≡ laid_out h f
  unfolding checked laid_out
  checked-laid a b c = rw (ends-rows h f a b c)

-- ---- the descriptor, handed on as a part of the image

module _ (image : List ℕ) (d n : ℕ) (here : located (fields_of image) ≡ Ok (at d n)) where
  found : Found (fields_of image) d n
  found = located-at (fields_of image) d n here

  start_is : d ≡ offset_word image
  start_is = found.start ∙ fields-offset image

  abbrev part : List ℕ
  part = take (length image - d) (drop d image)

  part-is : part ≡ drop (offset_word image) image
  part-is = take_all (length image - d) (drop d image) (omega (arith, length-drop d image)) ∙ ap (λ (i : ℕ). drop i image) start_is

  pub part-few : n ≤ 32
  part-few = found.few

  pub part-long : 16 + 32 * n ≤ length part
  part-long = omega (arith, found.end, found.start, fields-length image, ap length (take_all (length image - d) (drop d image) (omega (arith, length-drop d image))), length-drop d image)

  pub part-start : d ≤ length image
  part-start = omega (arith, found.end, found.start, fields-length image)

  pub part_count : n ≡ section_count part
  part_count = found.count ∙ fields-count image ∙ ap section_count (sym part-is)

  few : section_count (fields_of image).descriptor ≤ 32
  few = omega (arith, found.few, found.count)

  counts : section_count part ≡ section_count (fields_of image).descriptor
  counts = ap section_count part-is ∙ sym (fields-count image)

  pub part-section : (k : ℕ) → k < n → section_at part k ≡ section_at (fields_of image).descriptor k
  part-section k l =
      ap (λ (s : List ℕ). section_at s k) part-is ∙ sym (fields-section image k (omega (arith, found.count)) few)

  same : (k : ℕ) → k < section_count part → section_at part k ≡ section_at (fields_of image).descriptor k
  same k l = part-section k (omega (arith, part_count))

  pub part-sections : up_to (section_at part) n ≡ sections (fields_of image)
  unfolding sections
  part-sections = ap (up_to (section_at part)) part_count ∙ sections-same [] 0 0 0 (fields_of image) part counts same

  pub part-laid : (m : List ℕ) (w p q : ℕ)
      → laid_out (host_with m 0 0 0) (fields_with (length image) d part) ≡ laid_out (host_with m w p q) (fields_of image)
  part-laid m w p q =
      ap₂ (λ (L o : ℕ). laid_out (host_with m 0 0 0) (fields_with L o part)) (sym (fields-length image)) found.start
      ∙ laid_same m w p q (fields_of image) part counts same

  pub part-kept : judge (descriptor_rules (fields_of image)) ≡ Ok tt
  part-kept = found.kept

-- ---- each stage's answer, as the code has it

pub first-is : (image m : List ℕ) (w p q : ℕ) (r : Verdict) → r ≡ judge (first_rules (host_with [] w p q) (fields_with (length image) 0 []))
    → r ≡ judge (first_rules (host_with m w p q) (fields_of image))
first-is image m w p q r e =
    e ∙ ap (λ (L : ℕ). judge (first_rules (host_with [] w p q) (fields_with L 0 []))) (sym (fields-length image)) ∙ first_any m w p q (fields_of image)

-- where the first stage answers a width, rules 1 to 3 are kept
pub first-passed : (image m : List ℕ) (w p q : ℕ) {r : Result Width Refusal} {v : Width}
    → judged r ≡ judge (first_rules (host_with [] w p q) (fields_with (length image) 0 [])) → r ≡ Ok v
    → judge (first_rules (host_with m w p q) (fields_of image)) ≡ Ok tt
first-passed image m w p q e k = sym (first-is image m w p q _ e) ∙ ap judged k

pub map_is : (w : ℕ) (m : List ℕ) (t : Result (Unit {0}) Fault) (r : Verdict) → t ≡ first_fault (map_tried w m) → r ≡ fault_verdict t
    → r ≡ judge (map_rules w m)
map_is w m t r e d = d ∙ ap fault_verdict e ∙ map-judged w m

-- with the width that the first stage answered
pub map-answered : (w : Width) (n : ℕ) → bits w ≡ n → (m : List ℕ) (t : Result (Unit {0}) Fault) → t ≡ first_fault (map_tried (bits w) m)
    → fault_verdict t ≡ judge (map_rules n m)
map-answered w n b m t e = map_is n m t (fault_verdict t) (e ∙ ap (λ (k : ℕ). first_fault (map_tried k m)) b) refl

-- where the second answers no fault, the map's rules are kept
pub map-passed : (w : Width) (n : ℕ) → bits w ≡ n → (m : List ℕ) {t : Result (Unit {0}) Fault} → t ≡ first_fault (map_tried (bits w) m) → t ≡ Ok tt
    → judge (map_rules n m) ≡ Ok tt
map-passed w n b m e k = sym (map-answered w n b m _ e) ∙ ap fault_verdict k
