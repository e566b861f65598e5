-- The owner's demands, as statements. Each is the whole type of one declaration of proofs/Demands or proofs/Unread, which proves it. The contract
-- of `launch` says that its answer is `answer`, and that the buffers hold `plan_after` and `handoff_after` when it returns: for every input, since it
-- requires nothing. So what is said here of these three is said of the function.
-- Assumes nothing.
use Rattle.std.specs.Prelude.{◌≡◌, ◌↔◌, ◌⊎◌, true, ℕ, ◌+◌, ◌-◌, ◌*◌, ◌≤◌, ◌<◌, min, length, get_or, replicate, Option, None}
use mathlib.Core.List.{List, ◌∷◌, ◌++◌, Memᴰ}
use Rattle.verdict.specs.declared.Refusal.{Refusal}
use Rattle.verdict.specs.Refusal as refusal
use Rattle.verdict.specs.Rules.{Rule, Kept}
use Rattle.memory.specs.Map.{record_at, record_count, end}
use Rattle.tdvf.specs.Image.{Fields, fields_of, section_count, section_at, sections}
use Rattle.tdvf.specs.Section.{measured, kind_allowed}
use Rattle.plan.specs.declared.Page.{Page}
use Rattle.plan.specs.Plan.{plan_bytes, page_at}
use Rattle.plan.specs.Once.{Once}
use Rattle.handoff.specs.Pieces.{pieces_of}
use Rattle.handoff.specs.Cover.{Chain}
use Rattle.measure.specs.Told.{SameLoad}
use Rattle.launch.specs.Host.{Host}
use Rattle.launch.specs.Rules.{rules}
use Rattle.launch.specs.Launch.{page_list, handoff_list, stream_of, accepted_answer, answer, then_zeros, plan_after, handoff_after}

-- a launch is accepted where its answer has no refusal
abbrev pub Accepts : Host → List ℕ → Type 0
Accepts h image = (answer h image).refusal ≡ None

-- ---- demand 1

-- "at the first broken rule": the row has a broken rule before which all are kept, and the refusal has its number and its place
pub record FirstBroken (row : List Rule) (r : Option Refusal) : Type 0 where
  pub before : List Rule
  pub first : Rule
  pub after : List Rule
  pub is : row ≡ before ++ first ∷ after
  pub kept : Kept before
  pub broken : first.broken ≡ true
  pub number : refusal.number r ≡ first.number
  pub place : refusal.place r ≡ first.place

pub record RefusedLaunch (h : Host) (image : List ℕ) : Type 0 where
  -- "Bad input gets a numbered refusal at the first broken rule"
  pub first : FirstBroken (rules h (fields_of image)) (answer h image).refusal
  -- "Every refusal of a launch returns pages, HOB length and blocks 0, a measurement of 48 zero bytes"
  pub pages : (answer h image).pages ≡ 0
  pub list : (answer h image).handoff ≡ 0
  pub blocks : (answer h image).blocks ≡ 0
  pub measurement : (answer h image).measurement ≡ replicate 48 0
  -- "a refused launch leaves every byte of the lent plan and hand-off buffers zero"
  pub plan : plan_after h image ≡ replicate h.plan 0
  pub handoff : handoff_after h image ≡ replicate h.handoff 0

-- "It takes all images and all memory maps": every host and every image, accepted or refused as said
abbrev pub Demand1 : Type 0
Demand1 = (h : Host) (image : List ℕ) → Accepts h image ⊎ RefusedLaunch h image

-- ---- demand 2

-- "lies inside the map": in one record, of a kind that the section's type allows
pub record InMap (map : List ℕ) (p : Page) : Type 0 where
  pub index : ℕ
  pub below : index < record_count map
  pub kind : kind_allowed p.sort (record_at map index).kind ≡ true
  pub from : (record_at map index).start ≤ p.address
  pub to : p.address + 4096 ≤ end (record_at map index)

pub record AcceptedLaunch (h : Host) (image : List ℕ) : Type 0 where
  -- "Then the page list, the hand-off block list and the measurement are those that .. that page states": the answer and what stands in
  -- the buffers, all of it, and zeros behind it
  pub answers : answer h image ≡ accepted_answer h image
  pub plan : plan_after h image ≡ then_zeros h.plan (plan_bytes (page_list h (fields_of image)))
  pub handoff : handoff_after h image ≡ then_zeros h.handoff (handoff_list h (fields_of image))
  pub plan-fits : length (plan_bytes (page_list h (fields_of image))) ≤ h.plan
  pub list-fits : length (handoff_list h (fields_of image)) ≤ h.handoff
  -- the plan's bytes hold the pages, record by record
  pub reads : (i : ℕ) (p : Page) → i < length (page_list h (fields_of image)) → page_at (plan_after h image) i ≡ get_or (page_list h (fields_of image)) i p
  -- the reported numbers: the plan's records, the list's bytes, and the stream's length over 128
  pub pages : (answer h image).pages ≡ length (page_list h (fields_of image))
  pub list : (answer h image).handoff ≡ length (handoff_list h (fields_of image))
  pub blocks : 128 * (answer h image).blocks ≡ length (stream_of h image)
  -- "Every planned page is added once and lies inside the map"
  pub once : Once (page_list h (fields_of image))
  pub inside : (p : Page) → Memᴰ p (page_list h (fields_of image)) → InMap h.map p
  -- the hand-off list's pieces cover each record of RAM exactly, in order, without gap or overlap
  pub covers : (i : ℕ) → i < record_count h.map → (record_at h.map i).kind ≡ 1
      → Chain (record_at h.map i).start (pieces_of (sections (fields_of image)) (record_at h.map i)) (end (record_at h.map i))

-- "A launch is accepted exactly if no rule on our page is broken", and then it is as said
abbrev pub Demand2 : Type 0
Demand2 = (h : Host) (image : List ℕ) → (Accepts h image ↔ Kept (rules h (fields_of image))) × (Accepts h image → AcceptedLaunch h image)

-- ---- demand 3, its first half

-- "The measured stream tells what was loaded and no more. If two accepted launches have equal streams, they add the same addresses in the
-- same order, measure the same ones, and the measured pages hold the same bytes; the converse holds too": any images, maps, widths and
-- buffers
abbrev pub Demand3Stream : Type 0
Demand3Stream = (h h' : Host) (image image' : List ℕ) → Accepts h image → Accepts h' image'
    → (stream_of h image ≡ stream_of h' image')
    ↔ SameLoad image (handoff_list h (fields_of image)) (page_list h (fields_of image)) image' (handoff_list h' (fields_of image')) (page_list h' (fields_of image'))

-- ---- demand 3, its second half

-- not in the n bytes from `at` on
abbrev pub Beyond : ℕ → ℕ → ℕ → Type 0
Beyond at n i = (i < at) ⊎ (at + n ≤ i)

-- "outside its offset word, its descriptor and the data of its measured sections": L − 32 to L − 29, D to D + 15 + 32 × sections, and data
-- offset to data offset + raw size − 1 of each section with attribute bit 0
pub record Unread (f : Fields) (i : ℕ) : Type 0 where
  pub word : Beyond (f.length - 32) 4 i
  pub descriptor : Beyond f.offset (16 + 32 * section_count f.descriptor) i
  pub «data» : (k : ℕ) → k < section_count f.descriptor → measured (section_at f.descriptor k) ≡ 1
      → Beyond (section_at f.descriptor k).offset (section_at f.descriptor k).raw i

-- "keeps its length and is changed only outside": each byte at which the two differ is outside
pub record ChangedOutside (image other : List ℕ) : Type 0 where
  pub long : length other ≡ length image
  pub outside : (i : ℕ) → (get_or image i 0 ≡ get_or other i 0 → ⊥) → Unread (fields_of image) i

-- "with the same page list, hand-off list, counts and measurement"
pub record SameLaunch (h : Host) (image other : List ℕ) : Type 0 where
  pub accepted : Accepts h other
  pub pages : page_list h (fields_of other) ≡ page_list h (fields_of image)
  pub list : handoff_list h (fields_of other) ≡ handoff_list h (fields_of image)
  pub stream : stream_of h other ≡ stream_of h image
  -- counts and measurement
  pub answers : answer h other ≡ answer h image
  pub plan : plan_after h other ≡ plan_after h image
  pub handoff : handoff_after h other ≡ handoff_after h image

-- "if an accepted image keeps its length and is changed only outside .., then under the same map, address width and buffer sizes the new
-- image is accepted too"
abbrev pub Demand3Unread : Type 0
Demand3Unread = (h : Host) (image other : List ℕ) → Accepts h image → ChangedOutside image other → SameLaunch h image other

-- of every image, a refused one too: where another of its length agrees with it in the offset word and in the descriptor (the 16 bytes at D
-- and those of its sections, of 32 at most), the refusal, the counts and both buffers are the same. The measurement of an accepted one asks
-- for the data of its measured sections besides
pub record Agrees (image other : List ℕ) : Type 0 where
  pub long : length other ≡ length image
  pub word : (k : ℕ) → k < 4 → get_or other ((length image - 32) + k) 0 ≡ get_or image ((length image - 32) + k) 0
  pub descriptor : (k : ℕ) → k < 16 + 32 * min 32 (section_count (fields_of image).descriptor)
      → get_or other ((fields_of image).offset + k) 0 ≡ get_or image ((fields_of image).offset + k) 0

pub record SameAnswer (h : Host) (image other : List ℕ) : Type 0 where
  pub refusal : (answer h other).refusal ≡ (answer h image).refusal
  pub pages : (answer h other).pages ≡ (answer h image).pages
  pub list : (answer h other).handoff ≡ (answer h image).handoff
  pub blocks : (answer h other).blocks ≡ (answer h image).blocks
  pub plan : plan_after h other ≡ plan_after h image
  pub handoff : handoff_after h other ≡ handoff_after h image

abbrev pub Demand3Refused : Type 0
Demand3Refused = (h : Host) (image other : List ℕ) → Agrees image other → SameAnswer h image other

-- ---- that something is said

-- two accepted launches with different streams
pub record DifferentStreams : Type 0 where
  pub host : Host
  pub image : List ℕ
  pub other : List ℕ
  pub accepted : Accepts host image
  pub other-accepted : Accepts host other
  pub differ : stream_of host image ≡ stream_of host other → ⊥

-- two different images, accepted under one host, with equal streams
pub record EqualStreams : Type 0 where
  pub host : Host
  pub image : List ℕ
  pub other : List ℕ
  pub accepted : Accepts host image
  pub other-accepted : Accepts host other
  pub differ : image ≡ other → ⊥
  pub same : stream_of host image ≡ stream_of host other
