-- The owner's demands 1 and 2 and the first half of 3, proved: each declaration's type is a statement of specs/Demands, whole. Assumes nothing.
use mathlib.Core.Path.{◌≡◌, refl, sym, ap, subst, ◌∙◌}
use mathlib.Core.Bool.{true, false, true≢false}
use mathlib.Core.Logic.{◌↔◌, ◌⊎◌, inl, inr}
use mathlib.Core.List.{List, Memᴰ}
use Prim.Native.Nat.{ℕ, ◌-◌, ◌*◌, ◌<◌}
use native.Mathlib.Omega.{arith}
use lib.ListN.{length, get_or, replicate}
use Rattle.std.specs.Prelude.{Ok}
use Rattle.std.specs.Result.{result_err}
use Rattle.verdict.specs.Turns.{up_to}
use Rattle.verdict.proofs.Turns.{up_to-of}
use Rattle.verdict.proofs.Each.{each-up_to}
use Rattle.verdict.proofs.Rules.{either, none-refused}
use Rattle.memory.specs.Map.{record_at, record_count, records, end}
use Rattle.memory.proofs.Inside.{inside-meaning}
use Rattle.tdvf.specs.Image.{Fields, fields_of, section_count, section_at, sections}
use Rattle.tdvf.specs.Section.{kind_allowed, handoff_section}
use Rattle.tdvf.proofs.Shares.{apart-exactly}
use Rattle.plan.specs.declared.Page.{Page}
use Rattle.plan.specs.Plan.{plan_bytes}
use Rattle.plan.specs.Once.{Once}
use Rattle.plan.proofs.Back.{in_list, read_back}
use Rattle.plan.proofs.Pages.{In, pages-in, pages-once}
use Rattle.handoff.specs.Pieces.{pieces_of, pieces}
use Rattle.handoff.specs.Cover.{Chain}
use Rattle.handoff.proofs.Size as size
use Rattle.handoff.proofs.Cover.{map-covered}
use Rattle.measure.proofs.Length.{stream-length}
use Rattle.measure.proofs.Same.{stream-same}
use Rattle.launch.specs.declared.Answer.{Answer}
use Rattle.launch.specs.Host.{Host}
use Rattle.launch.specs.Rules.{handoff_length, rules, verdict}
use Rattle.launch.specs.Launch.{page_list, handoff_list, stream_of, accepted_answer, refused_answer, accepted, answer, then_zeros}
use Rattle.launch.specs.Demands.{Accepts, FirstBroken, RefusedLaunch, Demand1, InMap, AcceptedLaunch, Demand2, Demand3Stream}
use Rattle.launch.proofs.Keeps.{Keeps}
use Rattle.launch.proofs.Verdict.{accepted-kept, verdict-first, verdict-named}
use Rattle.launch.proofs.Refused as refused
use Rattle.launch.proofs.Accepted.{accepted-keeps, section-kept, map-kept}
use Rattle.launch.proofs.Filled.{pages-sized-all, plan-long, list-long}
use Rattle.launch.proofs.Whole.{accepts}

-- ---- an answer without a refusal is that of an accepted launch

module _ (h : Host) (image : List ℕ) where
  refused-verdict : accepted h image ≡ false → (answer h image).refusal ≡ result_err (verdict h (fields_of image))
  unfolding refused_answer
  refused-verdict e = rw (refused.refused-answer h image e)

  pub accepts-accepted : Accepts h image ↔ (accepted h image ≡ true)
  unfolding accepted_answer
  accepts-accepted = (λ e. step e (either (accepted h image)), λ e. rw (refused.accepted-answer h image e))
    where
      step : Accepts h image → (accepted h image ≡ true) ⊎ (accepted h image ≡ false) → accepted h image ≡ true
      step e (inl a) = a
      step e (inr b) = accepts h image (none-refused (verdict h (fields_of image)) (sym (refused-verdict b) ∙ e))

-- ---- demand 1

first-broken : (h : Host) (f : Fields) → (verdict h f ≡ Ok tt → ⊥) → FirstBroken (rules h f) (result_err (verdict h f))
unfolding verdict
first-broken h f n =
    let t = verdict-first h f n in
    let named = verdict-named h f n in
    record {
      before = t.before;
      first = t.first;
      after = t.after;
      is = t.row;
      kept = t.kept;
      broken = t.broken;
      number = named.by_number;
      place = named.by_place;
    }

pub demand-1 : Demand1
demand-1 h image = step (either (accepted h image))
  where
    refuses : accepted h image ≡ false → RefusedLaunch h image
    refuses e =
        let is = refused-verdict h image e in
        let counts = refused.refused-counts h image e in
        let broken = first-broken h (fields_of image) (λ z. true≢false (sym (accepts h image z) ∙ e)) in
        record {
          first = subst (FirstBroken (rules h (fields_of image))) (sym is) broken;
          pages = counts.0;
          list = counts.1;
          blocks = counts.2;
          measurement = counts.3;
          plan = refused.refused-plan h image e;
          handoff = refused.refused-handoff h image e;
        }

    step : (accepted h image ≡ true) ⊎ (accepted h image ≡ false) → Accepts h image ⊎ RefusedLaunch h image
    step (inl e) = inl ((accepts-accepted h image).1 e)
    step (inr e) = inr (refuses e)

-- ---- demand 2

module _ (h : Host) (f : Fields) (kept : Keeps h f) where
  pub once : Once (page_list h f)
  unfolding page_list sections
  once =
      pages-once (handoff_length h f) (section_at f.descriptor) (section_count f.descriptor)
      (λ j k l b. (section-kept h f k kept b).apart j l)

  section-inside : (k : ℕ) → k < section_count f.descriptor → (p : Page) → In (section_at f.descriptor k) p → InMap h.map p
  unfolding records
  section-inside k l p a =
      let held = (section-kept h f k kept l).held in
      let at = up_to-of (record_at h.map) (record_count h.map) held.member in
      record {
        index = at.0;
        below = at.1;
        kind = rw (sym at.2, a.sort) held.kind;
        from = rw (sym at.2) (omega (arith, held.from, a.from));
        to = rw (sym at.2) (omega (arith, held.to, a.to));
      }

  pub inside : (p : Page) → Memᴰ p (page_list h f) → InMap h.map p
  unfolding page_list sections
  inside =
      pages-in (InMap h.map) (handoff_length h f) (sections f)
      ((each-up_to _ (section_at f.descriptor) (section_count f.descriptor)).1 section-inside)

  pub covers : (i : ℕ) → i < record_count h.map → (record_at h.map i).kind ≡ 1
      → Chain (record_at h.map i).start (pieces_of (sections f) (record_at h.map i)) (end (record_at h.map i))
  unfolding sections
  covers i l ram =
      let s = section_at f.descriptor in
      let n = section_count f.descriptor in
      (map-covered h.map (λ j b. ((map-kept h f kept).each j b).behind) s n (λ k b. (section-kept h f k kept b).image.memory.some)
      (λ t. kind_allowed t.sort)
      (λ k b. (inside-meaning (kind_allowed (s k).sort) (s k).address (s k).size (records h.map)).1 (section-kept h f k kept b).held)
      (λ k b. (apart-exactly (up_to s k) (s k)).1 ((each-up_to _ s k).1 (λ j c. (section-kept h f k kept b).apart j c)))
      i l ram).chain

-- the numbers of an accepted answer
module _ (h : Host) (image : List ℕ) where
  pages-told : (accepted_answer h image).pages ≡ length (page_list h (fields_of image))
  unfolding accepted_answer
  pages-told = refl

  list-told : (accepted_answer h image).handoff ≡ length (handoff_list h (fields_of image))
  unfolding accepted_answer handoff_length handoff_list
  list-told = sym (size.list-length (handoff_section (sections (fields_of image))).address (pieces (sections (fields_of image)) (records h.map)))

  blocks-told : 128 * (accepted_answer h image).blocks ≡ length (stream_of h image)
  unfolding accepted_answer stream_of
  blocks-told = sym (stream-length image (handoff_list h (fields_of image)) (page_list h (fields_of image)))

accepted-launch : (h : Host) (image : List ℕ) → accepted h image ≡ true → AcceptedLaunch h image
unfolding then_zeros
accepted-launch h image e =
    let f = fields_of image in
    let ps : List Page = page_list h f in
    let kept = accepted-keeps h image e in
    let is = refused.accepted-answer h image e in
    record {
      answers = is;
      plan = refused.accepted-plan h image e;
      handoff = refused.accepted-handoff h image e;
      plan-fits = plan-long h f kept;
      list-fits = list-long h f kept;
      reads = λ i p l.
          rw (refused.accepted-plan h image e)
          (read_back ps (replicate (h.plan - length (plan_bytes ps)) 0) i p l (pages-sized-all h f kept (get_or ps i p) (in_list ps i p l)));
      pages = ap (λ (a : Answer). a.pages) is ∙ pages-told h image;
      list = ap (λ (a : Answer). a.handoff) is ∙ list-told h image;
      blocks = ap (λ (a : Answer). 128 * a.blocks) is ∙ blocks-told h image;
      once = once h f kept;
      inside = inside h f kept;
      covers = covers h f kept;
    }

pub demand-2 : Demand2
demand-2 h image =
    let is = accepts-accepted h image in
    let kept = accepted-kept h image in
    ((λ e. kept.0 (is.0 e), λ k. is.1 (kept.1 k)), λ e. accepted-launch h image (is.0 e))

-- ---- demand 3, first half

pub demand-3-stream : Demand3Stream
unfolding stream_of
demand-3-stream h h' image image' a a' =
    let f = fields_of image in
    let f' = fields_of image' in
    let sized = pages-sized-all h f (accepted-keeps h image ((accepts-accepted h image).0 a)) in
    let sized' = pages-sized-all h' f' (accepted-keeps h' image' ((accepts-accepted h' image').0 a')) in
    stream-same image (handoff_list h f) (page_list h f) image' (handoff_list h' f') (page_list h' f') sized sized'
