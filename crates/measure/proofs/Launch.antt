-- The theorem for the launch: where a plan is written from pages that fit, and what is measured has its data in the image, the
-- digest of the lent bytes is SHA-384 of the pages' stream. Assumes nothing.
use Rattle.std.proofs.Common.{◌≡◌, ℕ, zero, suc, ◌+◌, ◌-◌, ◌*◌, ◌/◌, ◌<◌, true, List, [], ◌∷◌, ◌++◌, length, get_or, take, sym, refl, ap, ◌∙◌, ap₂, append_assoc, append-nil, arith}
use Rattle.verdict.specs.Turns.{in_turn}
use Rattle.verdict.proofs.Turns.{turn-same}
use Rattle.verdict.proofs.Each.{Each, each-cons}
use Rattle.sha384.specs.Constants.{H⁰}
use Rattle.sha384.specs.declared.State.{State}
use Rattle.sha384.specs.Hash.{left384, finished, sha384}
use Rattle.plan.specs.declared.Page.{Page}
use Rattle.plan.specs.Plan.{page_bytes, plan_bytes, page_at}
use Rattle.plan.specs.View.{content, held}
use Rattle.plan.proofs.Records.{length-plan}
use Rattle.plan.proofs.Shown.{view-volume}
use Rattle.plan.proofs.Back.{Sized, page-front, page-behind}
use Rattle.measure.specs.Stream.{is_measured, page_blocks, blocks_of, stream, block_count, plan_blocks, block_at, before, folded, digest_of}
use Rattle.measure.specs.Turn.{next_block}
use Rattle.measure.proofs.Alike.{blocks-alike}
use Rattle.measure.proofs.Length.{blocks-of}
use Rattle.measure.proofs.Blocks.{plan-count, block_in}
use Rattle.measure.proofs.Folded.{folded-same, finished-joined}
use Rattle.measure.proofs.Records.{whole-written}
use Rattle.measure.proofs.Run.{whole_run}

-- a measured page's data is in the image: its type is 0 or 1
abbrev pub Volume : Page → Type 0
Volume p = is_measured p ≡ true → p.sort < 2

-- the first turn, then the others
turn-front : {A : Type 0} (f : ℕ → List A) (n : ℕ) → in_turn f (suc n) ≡ f 0 ++ in_turn (λ i. f (suc i)) n
unfolding in_turn
turn-front f zero = sym (append-nil (f 0))
turn-front {A} f (suc n) =
    ap (λ (l : List A). l ++ f (suc n)) (turn-front f n) ∙ append_assoc (f 0) (in_turn (λ i. f (suc i)) n) (f (suc n))

module _ (image handoff : List ℕ) where
  -- where no HOB list is read, none is missing
  page-alike : (p : Page) → Volume p → page_blocks p (held image [] p) ≡ page_blocks p (held image handoff p)
  unfolding held
  page-alike p v =
      blocks-alike p p (held image [] p) (held image handoff p) refl refl
      (λ m.
      ap content
      (view-volume image [] p.offset p.length p.sort (v m) ∙ sym (view-volume image handoff p.offset p.length p.sort (v m))))

  -- the blocks of a written plan's bytes are those of its pages
  pub plan-blocks : (ps : List Page) (rest : List ℕ) → Each Sized ps → Each Volume ps
      → plan_blocks image (plan_bytes ps ++ rest) (length ps) ≡ blocks_of image handoff ps
  unfolding plan_blocks blocks_of plan_bytes in_turn
  plan-blocks [] rest z v = refl
  plan-blocks (p ∷ ps) rest z v =
      let tail : List ℕ = plan_bytes ps ++ rest in
      let whole : List ℕ = page_bytes p ++ tail in
      let sized = (each-cons Sized p ps).0 z in
      let volume = (each-cons Volume p ps).0 v in
      let blocks : List ℕ → ℕ → List (List ℕ) = λ l i. page_blocks (page_at l i) (held image [] (page_at l i)) in
      ap (λ (l : List ℕ). plan_blocks image l (suc (length ps))) (append_assoc (page_bytes p) (plan_bytes ps) rest)
      ∙ turn-front (blocks whole) (length ps)
      ∙ ap₂ (λ (a b : List (List ℕ)). a ++ b)
      (ap (λ (q : Page). page_blocks q (held image [] q)) (page-front p tail sized.0) ∙ page-alike p volume.0)
      (turn-same (λ i. blocks whole (suc i)) (blocks tail) (length ps)
      (λ i l. ap (λ (q : Page). page_blocks q (held image [] q)) (page-behind p tail i))
      ∙ plan-blocks ps rest sized.1 volume.1)

module _ (ps : List Page) (rest : List ℕ) (z : Each Sized ps) (v : Each Volume ps) where
  -- THE NUMBER: what the code counts is the reported number
  pub plan-number : before (plan_bytes ps ++ rest) (length ps) ≡ block_count ps
  plan-number =
      sym (plan-count [] (plan_bytes ps ++ rest) (length ps)) ∙ ap length (plan-blocks [] [] ps rest z v) ∙ (blocks-of [] [] ps).1

  -- THE THEOREM: the digest of the lent bytes is SHA-384 of the stream, whatever the HOB list and the rest of the buffer are
  pub digest-is : (image handoff : List ℕ) → digest_of image (plan_bytes ps ++ rest) (block_count ps) ≡ sha384 (stream image handoff ps)
  unfolding digest_of stream
  digest-is image handoff =
      let plan : List ℕ = plan_bytes ps ++ rest in
      let bs : List (List ℕ) = blocks_of image handoff ps in
      let count : length bs ≡ block_count ps = (blocks-of image handoff ps).1 in
      let each : (i : ℕ) → i < length bs → block_at image plan i ≡ get_or bs i [] =
      λ i l. sym (block_in image plan (length ps) i (omega (arith, plan-number)))
      ∙ ap (λ (b : List (List ℕ)). get_or b i []) (plan-blocks image handoff ps rest z v) in
      ap (λ (q : ℕ). finished (folded (block_at image plan) H⁰ 0 q) [] (128 * q)) (sym count)
      ∙ ap (λ (s : State). finished s [] (128 * length bs)) (folded-same (block_at image plan) (λ i. get_or bs i []) H⁰ (length bs) each)
      ∙ finished-joined bs (blocks-of image handoff ps).0

-- AND IN TURNS: all blocks of the lent bytes' whole records and the padding's, from the initial hash value on, leave it too
pub turns-digest : (ps : List Page) (rest : List ℕ) → Each Sized ps → Each Volume ps → (image handoff : List ℕ)
    → left384 (folded (next_block image (plan_bytes ps ++ rest) (block_count ps + 1)) H⁰ 0 (block_count ps + 1)) ≡ sha384 (stream image handoff ps)
unfolding digest_of
turns-digest ps rest z v image handoff =
    let bytes : List ℕ = plan_bytes ps in
    let tail : List ℕ = take (16 * (length (bytes ++ rest) / 16) - length bytes) rest in
    whole_run image (bytes ++ rest) (block_count ps)
    ∙ ap (λ (plan : List ℕ). digest_of image plan (block_count ps)) (whole-written bytes rest (length ps) (length-plan ps))
    ∙ digest-is ps tail z v image handoff
