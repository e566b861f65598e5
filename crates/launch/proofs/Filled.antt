-- What an accepted launch hands its writers, and that what they write and measure is the launch's page list, HOB list and measurement.
-- Assumes nothing.
use mathlib.Core.Path.{◌≡◌, refl, sym, ap, ap₂, subst, ◌∙◌}
use mathlib.Core.List.{List, [], ◌∷◌, ◌++◌}
use Prim.Native.Nat.{ℕ, zero, suc, ◌+◌, ◌-◌, ◌*◌, ◌%◌, ◌^◌, ◌≤◌, ◌<◌}
use native.Mathlib.Omega.{arith}
use lib.ListN.{length, take, drop, replicate, get_or}
use lib.Seq.{sets}
use borrow.Author.Tests.{eqb-true}
use Rattle.wire.proofs.Sets.{sets-front}
use Rattle.std.specs.Prelude.{Ok, None}
use Rattle.std.specs.List.{All}
use Rattle.verdict.specs.Turns.{up_to}
use Rattle.verdict.proofs.Turns.{turn-add, length-up_to, get_or-up_to}
use Rattle.verdict.proofs.Each.{Each, each-up_to}
use Rattle.verdict.proofs.Rules.{and-found}
use Rattle.memory.specs.Map.{records}
use Rattle.tdvf.specs.declared.Section.{Section}
use Rattle.tdvf.specs.Image.{Fields, fields_of, section_count, section_at, sections, located}
use Rattle.tdvf.specs.Section.{pages_in_all, handoff_section}
use Rattle.tdvf.proofs.Descriptor.{at, located-found}
use Rattle.tdvf.proofs.Kept.{Attributes}
use Rattle.tdvf.proofs.Sums.{pages-append}
use Rattle.plan.specs.declared.Page.{Page}
use Rattle.plan.specs.Plan.{Fits, page_of, pages, plan_bytes}
use Rattle.plan.proofs.Records.{length-plan, length-pages}
use Rattle.plan.proofs.Back.{Sized, each-page, pages-sized}
use Rattle.handoff.specs.Pieces.{EndsFit, pieces}
use Rattle.handoff.specs.List.{list_length, list_bytes}
use Rattle.handoff.proofs.Size as size
use Rattle.measure.specs.Stream.{stream, block_count, before, digest_of}
use Rattle.measure.proofs.Length.{blocks-most}
use Rattle.measure.proofs.Launch.{Volume, plan-number, digest-is}
use Rattle.sha384.specs.Hash.{sha384}
use Rattle.launch.specs.declared.Layout.{Layout}
use Rattle.launch.specs.Host.{Host, host_with}
use Rattle.launch.specs.Rules.{handoff_length, verdict, layout_of, checked}
use Rattle.launch.specs.Launch.{page_list, handoff_list, stream_of, accepted_answer}
use Rattle.launch.specs.Begin.{answer_of, unmeasured}
use Rattle.launch.proofs.Keeps.{Keeps, keeps}
use Rattle.launch.proofs.Order.{first-kept, ends-fit, part-few, part-long, part-start, part-section, part-sections}
use Rattle.launch.proofs.Accepted.{section-kept, section-fits, last-kept, map-faultless, list-short, list-low}

-- ---- the layout that the checks answer

pub record Lays (h : Host) (f : Fields) (l : Layout) : Type 0 where
  pub none : verdict h f ≡ Ok tt
  pub is : l ≡ layout_of h f

pub lays : (h : Host) (f : Fields) (l : Layout) → checked h f ≡ Ok l → Lays h f l
unfolding checked
lays h f l e =
    let both = and-found (verdict h f) (layout_of h f) l e in record { none = both.0; is = sym both.1 }

-- ---- the pages

-- what is measured has its data in the image: other types have no attributes
pub page-volume : (handoff : ℕ) (s : Section) (k : ℕ) → Attributes s → Volume (page_of handoff s k)
unfolding page_of
page-volume handoff s k a m = by_type s.sort a.other (eqb-true (s.attributes % 2) 1 m)
  where
    by_type : (t : ℕ) → (2 ≤ t → s.attributes ≡ 0) → s.attributes % 2 ≡ 1 → t < 2
    by_type zero h one = omega arith
    by_type (suc zero) h one = omega arith
    by_type (suc (suc t)) h one = absurd (omega (arith, h (omega arith)))

-- the first sections have no more pages than all
pages-first : (f : ℕ → Section) (n m : ℕ) → n ≤ m → pages_in_all (up_to f n) ≤ pages_in_all (up_to f m)
pages-first f n m h =
    let e : m ≡ n + (m - n) = omega arith in
    let split : pages_in_all (up_to f m) ≡ pages_in_all (up_to f n) + pages_in_all (up_to (λ i. f (n + i)) (m - n)) =
    ap (λ (k : ℕ). pages_in_all (up_to f k)) e ∙ ap pages_in_all (turn-add (λ i. f i ∷ []) n (m - n)) ∙ pages-append _ _ in
    omega (arith, split)

module _ (h : Host) (f : Fields) (kept : Keeps h f) where
  list-fits : handoff_length h f ≤ 2 ^ 32
  list-fits = omega (arith, list-short h f kept)

  pub pages-sized-all : Each Sized (page_list h f)
  unfolding page_list sections
  pages-sized-all =
      pages-sized (handoff_length h f) list-fits (sections f)
      ((each-up_to Fits (section_at f.descriptor) (section_count f.descriptor)).1 (λ k l. section-fits h f k kept l))

  pub pages-volume : Each Volume (page_list h f)
  unfolding page_list sections
  pages-volume =
      each-page Volume (handoff_length h f) (sections f)
      ((each-up_to _ (section_at f.descriptor) (section_count f.descriptor)).1 (λ k l i g. page-volume (handoff_length h f) (section_at f.descriptor k) i (section-kept h f k kept l).image.attributes))

  pub pages-counted : length (page_list h f) ≡ pages_in_all (sections f)
  unfolding page_list
  pages-counted = length-pages (handoff_length h f) (sections f)

  pub plan-long : length (plan_bytes (page_list h f)) ≤ h.plan
  plan-long = omega (arith, length-plan (page_list h f), pages-counted, (last-kept h f kept).pages, (first-kept h f kept.first).plan)

  pub list-long : length (handoff_list h f) ≤ h.handoff
  unfolding handoff_list handoff_length
  list-long =
      omega (arith, size.list-length (handoff_section (sections f)).address (pieces (sections f) (records h.map)), list-short h f kept, (first-kept h f kept.first).handoff)

-- ---- the writers, by what the checks answered

module _ (m : List ℕ) (w p q : ℕ) (image : List ℕ) (l : Layout) (e : checked (host_with m w p q) (fields_of image) ≡ Ok l) where
  abbrev host : Host
  host = host_with m w p q

  abbrev f : Fields
  f = fields_of image

  laid : Lays host f l
  laid = lays host f l e

  kept : Keeps host f
  kept = keeps host f laid.none

  pub at_offset : l.offset ≡ f.offset
  unfolding layout_of
  at_offset = ap (λ (k : Layout). k.offset) laid.is

  pub at_count : l.count ≡ section_count f.descriptor
  unfolding layout_of
  at_count = ap (λ (k : Layout). k.count) laid.is

  pub at-pages : l.pages ≡ length (page_list host f)
  unfolding layout_of
  at-pages = ap (λ (k : Layout). k.pages) laid.is ∙ sym (pages-counted host f kept)

  pub at-handoff : l.handoff ≡ handoff_length host f
  unfolding layout_of
  at-handoff = ap (λ (k : Layout). k.handoff) laid.is

  pub at_address : l.address ≡ (handoff_section (sections f)).address
  unfolding layout_of
  at_address = ap (λ (k : Layout). k.address) laid.is

  here-is : located f ≡ Ok (at l.offset l.count)
  here-is = located-found f kept.descriptor ∙ ap₂ (λ (d n : ℕ). Ok (at d n)) (sym at_offset) (sym at_count)

  -- the part of the image from the descriptor on
  abbrev part : List ℕ
  part = take (length image - l.offset) (drop l.offset image)

  pub starts : l.offset ≤ length image
  starts = part-start image l.offset l.count here-is

  pub few-long : (l.count ≤ 32) × (16 + 32 * l.count ≤ length part)
  few-long = (part-few image l.offset l.count here-is, part-long image l.offset l.count here-is)

  pub part_long : 16 + 32 * l.count ≤ length part
  part_long = few-long.1

  sections-are : up_to (section_at part) l.count ≡ sections f
  sections-are = part-sections image l.offset l.count here-is

  pub ends : EndsFit m
  ends = ends-fit w m (first-kept host f kept.first).width (map-faultless host f kept)

  pub list-room : (l.handoff ≤ q) × (l.address + l.handoff < 2 ^ 64)
  list-room =
      (omega (arith, at-handoff, list-short host f kept, (first-kept host f kept.first).handoff), omega (arith, at-handoff, at_address, list-low host f kept))

  pub pages-few : l.pages ≤ 2 ^ 32
  pages-few = omega (arith, at-pages, pages-counted host f kept, (last-kept host f kept).pages)

  pub handoff-low : l.handoff ≤ 2 ^ 32
  handoff-low = omega (arith, at-handoff, list-fits host f kept)

  -- ---- the table that the code makes of that part

  abbrev bare : Host
  bare = host_with m 0 0 0

  module _ (t : List Section) (is : t ≡ up_to (section_at part) l.count) where
    table-is : t ≡ sections f
    table-is = is ∙ sections-are

    pub table-few : length t ≤ 32
    table-few = omega (arith, ap length is, length-up_to (section_at part) l.count, few-long.0)

    pub table-list : l.handoff ≡ list_length (pieces t (records m))
    unfolding handoff_length
    table-list = at-handoff ∙ ap (λ (ss : List Section). list_length (pieces ss (records m))) (sym table-is)

    -- what is written of it, with a host of which the map alone is known
    pub list-is : (b c : List ℕ) → c ≡ sets b 0 (list_bytes l.address (pieces t (records m))) → c ≡ sets b 0 (handoff_list bare f)
    unfolding handoff_list
    list-is b c z = z ∙ ap₂ (λ (a : ℕ) (ss : List Section). sets b 0 (list_bytes a (pieces ss (records m)))) at_address table-is

    pub plan-is : (b c : List ℕ) → c ≡ sets b 0 (plan_bytes (pages l.handoff t)) → c ≡ sets b 0 (plan_bytes (page_list bare f))
    unfolding page_list handoff_length
    plan-is b c z = z ∙ ap₂ (λ (n : ℕ) (ss : List Section). sets b 0 (plan_bytes (pages n ss))) at-handoff table-is

  -- a table of the first of them has room and fits as well, so that what is refused of one that is handed over by mistake is the plan alone
  module _ (t : List Section) (n : ℕ) (is : t ≡ up_to (section_at part) n) (most : n ≤ l.count) where
    pub table-room : 16 * pages_in_all t ≤ p
    table-room =
        omega (arith, ap pages_in_all is, pages-first (section_at part) n l.count most, ap pages_in_all sections-are, (last-kept host f kept).pages, (first-kept host f kept.first).plan)

    pub table-fits : All Fits t
    table-fits k d b =
        let c : k < n = omega (arith, ap length is, length-up_to (section_at part) n) in
        let here : get_or t k d ≡ section_at f.descriptor k =
        ap (λ (ss : List Section). get_or ss k d) is ∙ get_or-up_to (section_at part) n k d c ∙ part-section image l.offset l.count here-is k (omega arith) in
        subst Fits (sym here) (section-fits host f k kept (omega (arith, at_count)))

  -- ---- what was written

  module _ (b c : List ℕ) (room : length b ≡ p) (z : c ≡ sets b 0 (plan_bytes (page_list bare f))) where
    abbrev ps : List Page
    ps = page_list host f

    abbrev rest : List ℕ
    rest = drop (length (plan_bytes ps)) b

    same : page_list bare f ≡ ps
    unfolding page_list handoff_length
    same = refl

    -- the buffer has the plan's bytes, and something behind them
    behind : c ≡ plan_bytes ps ++ rest
    behind = z ∙ ap (λ (r : List Page). sets b 0 (plan_bytes r)) same ∙ sets-front b (plan_bytes ps) (omega (arith, plan-long host f kept))

    -- what is counted and digested of it is the accepted answer's
    pub answer-made : (n : ℕ) (digest : List ℕ) → n ≡ before c l.pages → digest ≡ digest_of image c n
        → record { refusal = None; pages = l.pages; handoff = l.handoff; blocks = n; measurement = digest } ≡ accepted_answer bare image
    unfolding accepted_answer stream_of handoff_list handoff_length page_list
    answer-made n digest k g =
        let blocks : n ≡ block_count ps =
        k ∙ ap₂ before behind at-pages ∙ plan-number ps rest (pages-sized-all host f kept) (pages-volume host f kept) in
        let measured : digest ≡ sha384 (stream image (handoff_list host f) ps) =
        g ∙ ap₂ (digest_of image) behind blocks ∙ digest-is ps rest (pages-sized-all host f kept) (pages-volume host f kept) image (handoff_list host f) in
        rw (at-pages, at-handoff, blocks, measured)

    pub blocks-are : (n : ℕ) → n ≡ before c l.pages → n ≡ block_count (page_list bare f)
    blocks-are n k =
        k ∙ ap₂ before behind at-pages ∙ plan-number ps rest (pages-sized-all host f kept) (pages-volume host f kept) ∙ ap block_count (sym same)

  -- the same of what the writer was asked for: the pages of the part's sections
  pub answer-is : (b c : List ℕ) → length b ≡ p → c ≡ sets b 0 (plan_bytes (pages l.handoff (up_to (section_at part) l.count))) → (n : ℕ) (digest : List ℕ)
      → n ≡ before c l.pages → digest ≡ digest_of image c n
      → record { refusal = None; pages = l.pages; handoff = l.handoff; blocks = n; measurement = digest } ≡ accepted_answer bare image
  answer-is b c room z = answer-made b c room (plan-is (up_to (section_at part) l.count) refl b c z)

  -- the answer, with zeros in the measurement's place
  pub unmeasured-is : (n : ℕ) → n ≡ block_count (page_list bare f) → answer_of l n (replicate 48 0) ≡ unmeasured (accepted_answer bare image)
  unfolding answer_of unmeasured accepted_answer handoff_length page_list
  unmeasured-is n k = rw (at-pages, at-handoff, k)

-- ---- the measurement of the plan that stands in the buffer

module _ (h : Host) (image : List ℕ) (kept : Keeps h (fields_of image)) where
  abbrev planned : List Page
  planned = page_list h (fields_of image)

  pub measured-is : (rest : List ℕ) → digest_of image (plan_bytes planned ++ rest) (accepted_answer h image).blocks ≡ (accepted_answer h image).measurement
  unfolding accepted_answer stream_of
  measured-is rest =
      digest-is planned rest (pages-sized-all h (fields_of image) kept) (pages-volume h (fields_of image) kept) image (handoff_list h (fields_of image))

  pub blocks-few : (accepted_answer h image).blocks ≤ 2 ^ 32
  unfolding accepted_answer
  blocks-few =
      omega (arith, blocks-most planned, pages-counted h (fields_of image) kept, (last-kept h (fields_of image) kept).pages)
