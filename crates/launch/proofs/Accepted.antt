-- What is so of an accepted launch: each section lies in a record of an allowed kind, no two share an address, and the counts keep their
-- bounds. Assumes nothing.
use mathlib.Core.Path.{◌≡◌, ap, ◌∙◌}
use mathlib.Core.Bool.{true, false}
use mathlib.Core.List.{List}
use Prim.Native.Nat.{ℕ, ◌+◌, ◌^◌, ◌≤◌, ◌<◌}
use native.Mathlib.Omega.{arith}
use borrow.Author.Tests.{ltb-false, not-false, eqb-true}
use Rattle.std.specs.Prelude.{Ok}
use Rattle.verdict.specs.Turns.{up_to}
use Rattle.verdict.specs.Rules.{judge}
use Rattle.verdict.proofs.Turns.{in-up_to, up_to-of}
use Rattle.verdict.proofs.Rules.{ok-kept, judge-both}
use Rattle.memory.specs.Map.{record_at, record_count, records, inside, map_tried, first_fault}
use Rattle.memory.specs.Map as over
use Rattle.memory.proofs.Broken.{top-low}
use Rattle.memory.proofs.First.{map-judged}
use Rattle.memory.proofs.Inside.{Held, inside-meaning}
use Rattle.memory.proofs.Kept.{KeptMap, kept_map}
use Rattle.tdvf.specs.Image.{Fields, fields_of, section_count, section_at, sections, descriptor_rules}
use Rattle.tdvf.proofs.Descriptor.{located-found, located-at}
use Rattle.tdvf.specs.Section.{kind_allowed, image_rules, shares, is_handoff, how_many, handoff_broken, pages_in_all, pages_broken, handoff_section, end}
use Rattle.tdvf.proofs.Kept.{kept-front, ImageKept, image-kept}
use Rattle.tdvf.proofs.Shares.{apart-exactly}
use Rattle.tdvf.proofs.Sums.{handoff-among}
use Rattle.plan.specs.Plan.{Fits}
use Rattle.handoff.specs.Pieces.{pieces}
use Rattle.handoff.proofs.Most.{Few, map-few}
use Rattle.launch.specs.Host.{Host}
use Rattle.launch.specs.Rules.{outside_broken, handoff_length, list_broken, section_rules, last_rules, verdict}
use Rattle.launch.specs.Launch.{accepted}
use Rattle.launch.proofs.Keeps.{Keeps, keeps, section-keeps}
use Rattle.launch.proofs.Order.{no-fault, first-kept}

-- an accepted launch breaks no rule
pub accepted-keeps : (h : Host) (image : List ℕ) → accepted h image ≡ true → Keeps h (fields_of image)
unfolding accepted
accepted-keeps h image e =
    keeps h (fields_of image) ((ok-kept (verdict h (fields_of image))).0 e)

-- ---- each section

-- what is so of section k
pub record SectionKept (h : Host) (f : Fields) (k : ℕ) : Type 0 where
  pub image : ImageKept f.length (section_at f.descriptor k)
  -- it lies in one record of an allowed kind
  pub held : Held (kind_allowed (section_at f.descriptor k).sort) (records h.map) (section_at f.descriptor k).address (section_at f.descriptor k).size
  -- and shares no address with an earlier one
  pub apart : (j : ℕ) → j < k → shares (section_at f.descriptor j) (section_at f.descriptor k) ≡ false

pub section-kept : (h : Host) (f : Fields) (k : ℕ) → Keeps h f → k < section_count f.descriptor → SectionKept h f k
unfolding section_rules outside_broken
section-kept h f k kept l =
    let s = section_at f.descriptor k in
    let both = judge-both (image_rules f.length s k) _ (section-keeps h f k kept l) in
    let outside = kept-front _ _ both.1 in
    let shared = kept-front _ _ outside.rest in
    let within = not-false _ outside.first in
    record {
      image = image-kept f.length s k both.0;
      held = (inside-meaning (kind_allowed s.sort) s.address s.size (records h.map)).0 within;
      apart = λ j h. (apart-exactly (up_to (section_at f.descriptor) k) s).0 shared.first (section_at f.descriptor j) (in-up_to (section_at f.descriptor) k j h);
    }

-- ---- all sections

pub record LastKept (h : Host) (f : Fields) : Type 0 where
  -- "TD HOB sections are not exactly one" is refused
  pub handoffs : how_many is_handoff (sections f) ≡ 1
  -- "more than 4,096 pages in all" is refused
  pub pages : pages_in_all (sections f) ≤ 4096
  -- the HOB list fits the TD HOB section's memory
  pub list : handoff_length h f ≤ (handoff_section (sections f)).size

pub last-kept : (h : Host) (f : Fields) → Keeps h f → LastKept h f
unfolding last_rules handoff_broken pages_broken list_broken
last-kept h f kept =
    let boot = kept-front _ _ kept.last in
    let handoff = kept-front _ _ boot.rest in
    let pages = kept-front _ _ handoff.rest in
    let list = kept-front _ _ pages.rest in
    record {
      handoffs = eqb-true (how_many is_handoff (sections f)) 1 (not-false _ handoff.first);
      pages = ltb-false 4096 (pages_in_all (sections f)) pages.first;
      list = ltb-false (handoff_section (sections f)).size (handoff_length h f) list.first;
    }

-- ---- the map

pub map-faultless : (h : Host) (f : Fields) → Keeps h f → first_fault (map_tried h.width h.map) ≡ Ok tt
map-faultless h f kept = no-fault (first_fault (map_tried h.width h.map)) (map-judged h.width h.map ∙ kept.map)

pub map-kept : (h : Host) (f : Fields) → Keeps h f → KeptMap h.width h.map
map-kept h f kept = kept_map h.width h.map (map-faultless h f kept)

-- ---- the descriptor and the hand-off list

pub sections-few : (f : Fields) → judge (descriptor_rules f) ≡ Ok tt → section_count f.descriptor ≤ 32
sections-few f kept =
    let found = located-at f f.offset (section_count f.descriptor) (located-found f kept) in found.few

-- "At most 128 pieces arise, so 6,208 bytes suffice"
pub handoff-few : (h : Host) (f : Fields) → Keeps h f → Few (pieces (sections f) (records h.map))
unfolding sections
handoff-few h f kept =
    let m = map-kept h f kept in
    map-few h.map (λ i l. (m.each i l).behind) m.count-high (section_at f.descriptor) (section_count f.descriptor) (sections-few f kept.descriptor)
    (λ k l. (section-kept h f k kept l).image.memory.some)

pub list-short : (h : Host) (f : Fields) → Keeps h f → handoff_length h f ≤ 6208
unfolding handoff_length
list-short h f kept = (handoff-few h f kept).bytes

-- ---- where a section ends

-- "Each record's end is at most 2 to the power of the address width": no section ends above it
pub section-low : (h : Host) (f : Fields) (k : ℕ) → Keeps h f → k < section_count f.descriptor → end (section_at f.descriptor k) ≤ 2 ^ 52
unfolding records
section-low h f k kept l =
    let held = (section-kept h f k kept l).held in
    let m = map-kept h f kept in
    let at = up_to-of (record_at h.map) (record_count h.map) held.member in
    let low : over.end (record_at h.map at.0) ≤ 2 ^ 52 = omega (arith, (m.each at.0 at.1).end_low, top-low (record_at h.map at.0).kind h.width (first-kept h f kept.first).width) in
    let ends : over.end held.holder ≡ over.end (record_at h.map at.0) = ap over.end at.2 in
    omega (arith, held.to)

-- the TD HOB section is one of the sections, so the address just past the list is no higher
pub list-low : (h : Host) (f : Fields) → Keeps h f → (handoff_section (sections f)).address + handoff_length h f ≤ 2 ^ 52
unfolding sections
list-low h f kept =
    let last = last-kept h f kept in
    let at = up_to-of (section_at f.descriptor) (section_count f.descriptor) (handoff-among (sections f) (λ z. omega (arith, last.handoffs))) in
    let ends : end (handoff_section (sections f)) ≡ end (section_at f.descriptor at.0) = ap end at.2 in
    omega (arith, last.list, section-low h f at.0 kept at.1)

-- so the fields of the plan's records hold a section's numbers
pub section-fits : (h : Host) (f : Fields) (k : ℕ) → Keeps h f → k < section_count f.descriptor → Fits (section_at f.descriptor k)
section-fits h f k kept l =
    let s = section-kept h f k kept l in
    record {
      low = section-low h f k kept l;
      known = s.image.sort;
      inside = omega (arith, s.image.inside, (first-kept h f kept.first).high);
    }
