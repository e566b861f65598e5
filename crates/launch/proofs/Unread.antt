-- Demand 3, second half: an accepted image that is changed only where nothing is read of it gives the same launch. Assumes nothing.
use mathlib.Core.Path.{◌≡◌, refl, sym, ap, ◌∙◌}
use mathlib.Core.Bool.{Bool, true, false}
use mathlib.Core.Logic.{inl, inr}
use mathlib.Core.List.{List}
use Prim.Native.Nat.{ℕ, ◌+◌, ◌-◌, ◌*◌, ◌≤◌, ◌<◌}
use native.Mathlib.Omega.{arith}
use native.Mathlib.Decide.{ℕ_discrete}
use lib.ListN.{length, get_or}
use borrow.Author.Tests.{eqb-true}
use Rattle.std.specs.Prelude.{None}
use Rattle.std.specs.Result.{result_err}
use Rattle.verdict.specs.Rules.{pick}
use Rattle.verdict.proofs.Each.{each-up_to}
use Rattle.tdvf.specs.Image.{Fields, fields_of, section_count, section_at, sections}
use Rattle.tdvf.specs.Section.{measured}
use Rattle.tdvf.proofs.Descriptor.{fields-length}
use Rattle.tdvf.proofs.Alike.{fields-same}
use Rattle.plan.specs.declared.Page.{Page}
use Rattle.plan.specs.Plan.{page_of}
use Rattle.plan.specs.View.{held}
use Rattle.plan.proofs.Back.{each-page}
use Rattle.plan.proofs.Alike.{page-data, held-alike}
use Rattle.measure.specs.Stream.{is_measured, block_count}
use Rattle.measure.proofs.Alike.{stream-alike}
use Rattle.launch.specs.declared.Answer.{Answer}
use Rattle.launch.specs.Host.{Host}
use Rattle.launch.specs.Rules.{handoff_length, verdict}
use Rattle.launch.specs.Launch.{page_list, handoff_list, stream_of, accepted_answer, refused_answer, accepted, answer, plan_after, handoff_after}
use Rattle.launch.specs.Demands.{Accepts, Beyond, Unread, ChangedOutside, SameLaunch, Demand3Unread, Agrees, Demand3Refused}
use Rattle.launch.proofs.Keeps.{Keeps}
use Rattle.launch.proofs.Refused as refused
use Rattle.launch.proofs.Accepted.{accepted-keeps, section-kept}
use Rattle.launch.proofs.Filled.{page-volume}
use Rattle.launch.proofs.Demands.{accepts-accepted}

-- a place in a range is not beyond it
not_beyond : (at n i : ℕ) → at ≤ i → i < at + n → Beyond at n i → ⊥
not_beyond at n i l h (inl b) = omega arith
not_beyond at n i l h (inr b) = omega arith

module _ (h : Host) (image other : List ℕ) (a : Accepts h image) (c : ChangedOutside image other) where
  abbrev f : Fields
  f = fields_of image

  kept : Keeps h f
  kept = accepted-keeps h image ((accepts-accepted h image).0 a)

  -- a byte that is read is the same in both
  read : (i : ℕ) → (Unread f i → ⊥) → get_or other i 0 ≡ get_or image i 0
  read i n = step (ℕ_discrete (get_or image i 0) (get_or other i 0))
    where
      step : Dec (get_or image i 0 ≡ get_or other i 0) → get_or other i 0 ≡ get_or image i 0
      step (yes e) = sym e
      step (no m) = absurd (n (c.outside i m))

  same-fields : fields_of other ≡ f
  same-fields =
      let long = fields-length image in
      fields-same image other c.long
      (λ k l. read ((length image - 32) + k) (λ u. not_beyond (f.length - 32) 4 ((length image - 32) + k) (omega (arith, long)) (omega (arith, long)) u.word))
      (λ k l. read (f.offset + k) (λ u. not_beyond f.offset (16 + 32 * section_count f.descriptor) (f.offset + k) (omega arith) (omega arith) u.descriptor))

  -- what a measured page holds is the same
  page-same : (k : ℕ) → k < section_count f.descriptor → (j : ℕ) → is_measured (page_of (handoff_length h f) (section_at f.descriptor k) j) ≡ true
      → held other (handoff_list h f) (page_of (handoff_length h f) (section_at f.descriptor k) j)
      ≡ held image (handoff_list h f) (page_of (handoff_length h f) (section_at f.descriptor k) j)
  unfolding page_of
  page-same k l j m =
      let s = section_at f.descriptor k in
      let p : Page = page_of (handoff_length h f) s j in
      let volume : s.sort < 2 = page-volume (handoff_length h f) s j (section-kept h f k kept l).image.attributes m in
      held-alike image other (handoff_list h f) p volume c.long
      (λ i b.
      let d = page-data (handoff_length h f) s j volume i b in
      read (p.offset + i) (λ u. not_beyond s.offset s.raw (p.offset + i) d.from d.to (u.«data» k l (eqb-true (measured s) 1 m))))

  same-stream : stream_of h other ≡ stream_of h image
  unfolding stream_of page_list sections
  same-stream =
      rw same-fields
      (stream-alike image other (handoff_list h f) (page_list h f)
      (each-page _ (handoff_length h f) (sections f)
      ((each-up_to _ (section_at f.descriptor) (section_count f.descriptor)).1 (λ k l j b. page-same k l j))))

  still-accepted : accepted h other ≡ true
  unfolding accepted
  still-accepted = rw same-fields ((accepts-accepted h image).0 a)

  same_answer : accepted_answer h other ≡ accepted_answer h image
  unfolding accepted_answer
  same_answer = rw (same-fields, same-stream)

  same-launch : SameLaunch h image other
  unfolding plan_after handoff_after accepted
  same-launch =
      record {
        accepted = (accepts-accepted h other).1 still-accepted;
        pages = ap (page_list h) same-fields;
        list = ap (handoff_list h) same-fields;
        stream = same-stream;
        answers = refused.accepted-answer h other still-accepted ∙ same_answer ∙ sym (refused.accepted-answer h image ((accepts-accepted h image).0 a));
        plan = rw same-fields;
        handoff = rw same-fields;
      }

pub demand-3-unread : Demand3Unread
demand-3-unread h image other a c = same-launch h image other a c

-- ---- of every image

-- a field of one of two answers is one of their fields
through : {A : Type 0} (field : Answer → A) (b : Bool) (x y : Answer) → field (pick b x y) ≡ pick b (field x) (field y)
through field true x y = refl
through field false x y = refl

-- the answer but for the measurement, by what is read of the image
module _ (h : Host) (image : List ℕ) where
  refusal_is : (answer h image).refusal ≡ pick (accepted h image) None (result_err (verdict h (fields_of image)))
  unfolding answer accepted_answer refused_answer
  refusal_is = through (λ a. a.refusal) (accepted h image) (accepted_answer h image) (refused_answer (result_err (verdict h (fields_of image))))

  pages-are : (answer h image).pages ≡ pick (accepted h image) (length (page_list h (fields_of image))) 0
  unfolding answer accepted_answer refused_answer
  pages-are = through (λ a. a.pages) (accepted h image) (accepted_answer h image) (refused_answer (result_err (verdict h (fields_of image))))

  list-is : (answer h image).handoff ≡ pick (accepted h image) (handoff_length h (fields_of image)) 0
  unfolding answer accepted_answer refused_answer
  list-is = through (λ a. a.handoff) (accepted h image) (accepted_answer h image) (refused_answer (result_err (verdict h (fields_of image))))

  blocks-are : (answer h image).blocks ≡ pick (accepted h image) (block_count (page_list h (fields_of image))) 0
  unfolding answer accepted_answer refused_answer
  blocks-are = through (λ a. a.blocks) (accepted h image) (accepted_answer h image) (refused_answer (result_err (verdict h (fields_of image))))

module _ (h : Host) (image other : List ℕ) (a : Agrees image other) where
  alike : fields_of other ≡ fields_of image
  alike = fields-same image other a.long a.word a.descriptor

  same-accepted : accepted h other ≡ accepted h image
  unfolding accepted
  same-accepted = rw alike

  same-refusal : (answer h other).refusal ≡ (answer h image).refusal
  same-refusal = rw (refusal_is h other, refusal_is h image, same-accepted, alike)

  same-pages : (answer h other).pages ≡ (answer h image).pages
  same-pages = rw (pages-are h other, pages-are h image, same-accepted, alike)

  same-list : (answer h other).handoff ≡ (answer h image).handoff
  same-list = rw (list-is h other, list-is h image, same-accepted, alike)

  same_blocks : (answer h other).blocks ≡ (answer h image).blocks
  same_blocks = rw (blocks-are h other, blocks-are h image, same-accepted, alike)

pub demand-3-refused : Demand3Refused
unfolding plan_after handoff_after
demand-3-refused h image other a =
    record {
      refusal = same-refusal h image other a;
      pages = same-pages h image other a;
      list = same-list h image other a;
      blocks = same_blocks h image other a;
      plan = rw (same-accepted h image other a, alike h image other a);
      handoff = rw (same-accepted h image other a, alike h image other a);
    }
