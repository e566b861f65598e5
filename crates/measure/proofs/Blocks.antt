-- The blocks of a lent plan: how many each record gives, which record block n is in, and which of a page's blocks it is there.
-- Assumes nothing.
use Rattle.std.proofs.Common.{◌≡◌, ℕ, zero, suc, ◌+◌, ◌-◌, ◌*◌, ◌/◌, ◌%◌, ◌^◌, ◌<◌, ◌≤◌, Bool, true, false, List, [], ◌++◌, length, get_or, take, drop, sym, refl, ap, ◌∙◌, add-zero, add-suc, add-one, arith, length-append, get_or-append-add, eq-eqb, ne_eqb}
use native.Mathlib.Decide.{dec_le}
use lib.ListN.{get_or-append, get_or-eq_default}
use Rattle.wire.proofs.Number.{number_at-one}
use Rattle.verdict.specs.Rules.{pick}
use Rattle.verdict.specs.Turns.{in_turn}
use Rattle.verdict.proofs.Turns.{turn-add, turn-split, get_or-turn}
use Rattle.plan.specs.declared.Page.{Page}
use Rattle.plan.specs.Plan.{page_at}
use Rattle.plan.specs.View.{content, view, held}
use Rattle.measure.specs.Stream.{extend_tag, add_tag, head_block, chunk_blocks, extend_blocks, is_measured, page_blocks, plan_blocks, block_at, count_of, before}
use Rattle.measure.proofs.Length.{Blocks, blocks-append, blocks_at, page-blocks, held-length}
use Rattle.measure.proofs.Bytes.{head-wraps}

-- ---- how many blocks a record gives

mark : (plan : List ℕ) (i : ℕ) → (page_at plan i).measured ≡ get_or plan (16 * i + 15) 0
unfolding page_at
mark plan i = number_at-one plan (16 * i + 15)

pub count-measured : (plan : List ℕ) (i : ℕ) → get_or plan (16 * i + 15) 0 ≡ 1 → count_of plan i ≡ 49
unfolding count_of
count-measured plan i e = rw (eq-eqb (page_at plan i).measured 1 (mark plan i ∙ e))

pub count-other : (plan : List ℕ) (i : ℕ) → (get_or plan (16 * i + 15) 0 ≡ 1 → ⊥) → count_of plan i ≡ 1
unfolding count_of
count-other plan i h = rw (ne_eqb (page_at plan i).measured 1 (λ e. h (sym (mark plan i) ∙ e)))

-- "records past the buffer's end read as zeros"
pub count_past : (plan : List ℕ) (i : ℕ) → length plan ≤ 16 * i + 15 → count_of plan i ≡ 1
count_past plan i h =
    count-other plan i (λ e. let z : get_or plan (16 * i + 15) 0 ≡ 0 = get_or-eq_default plan 0 h in omega arith)

picked : (b : Bool) → (1 ≤ pick b 49 1) × (pick b 49 1 ≤ 49) × (pick b 49 1 ≡ 1 + 48 * pick b 1 0)
picked true = (omega arith, omega arith, refl)
picked false = (omega arith, omega arith, refl)

-- each has a block at least, and 49 at most
pub count-least : (plan : List ℕ) (i : ℕ) → 1 ≤ count_of plan i
unfolding count_of
count-least plan i = (picked (is_measured (page_at plan i))).0

pub count_most : (plan : List ℕ) (i : ℕ) → count_of plan i ≤ 49
unfolding count_of
count_most plan i = (picked (is_measured (page_at plan i))).1

-- a page with a second block is measured
pub second-measured : (plan : List ℕ) (i j : ℕ) → j < count_of plan i → 0 < j → is_measured (page_at plan i) ≡ true
unfolding count_of
second-measured plan i j h l = by_mark (is_measured (page_at plan i)) h
  where
    by_mark : (b : Bool) → j < pick b 49 1 → b ≡ true
    by_mark true k = refl
    by_mark false k = absurd (omega arith)

-- ---- how many the first r records give

pub before-none : (plan : List ℕ) → before plan 0 ≡ 0
unfolding before
before-none plan = refl

pub before_more : (plan : List ℕ) (r : ℕ) → before plan (r + 1) ≡ before plan r + count_of plan r
unfolding before
before_more plan r = rw (add-one r)

pub before-least : (plan : List ℕ) (r : ℕ) → r ≤ before plan r
unfolding before
before-least plan zero = omega arith
before-least plan (suc r) = omega (arith, before-least plan r, count-least plan r)

pub before-most : (plan : List ℕ) (r : ℕ) → before plan r ≤ 49 * r
unfolding before
before-most plan zero = omega arith
before-most plan (suc r) = omega (arith, before-most plan r, count_most plan r)

-- past the plan's end each record gives one
pub before-past : (plan : List ℕ) (r k : ℕ) → length plan / 16 ≤ r → before plan (r + k) ≡ before plan r + k
unfolding before
before-past plan r zero h = rw (add-zero r) (omega arith)
before-past plan r (suc k) h = rw (add-suc r k) (omega (arith, before-past plan r k h, count_past plan (r + k) (omega arith)))

-- ---- the blocks themselves

module _ (image plan : List ℕ) where
  record_blocks : ℕ → List (List ℕ)
  record_blocks i = page_blocks (page_at plan i) (held image [] (page_at plan i))

  record-count : (i : ℕ) → length (record_blocks i) ≡ count_of plan i
  unfolding count_of record_blocks
  record-count i =
      let p = page_at plan i in
      (page-blocks p (held image [] p) (held-length image [] p)).1 ∙ sym (picked (is_measured p)).2

  blocks-turn : (r : ℕ) → plan_blocks image plan r ≡ in_turn record_blocks r
  unfolding plan_blocks record_blocks
  blocks-turn r = refl

  record-whole : (i : ℕ) → Blocks (record_blocks i)
  unfolding record_blocks
  record-whole i = let p = page_at plan i in (page-blocks p (held image [] p) (held-length image [] p)).0

  turn-whole : (r : ℕ) → Blocks (in_turn record_blocks r)
  unfolding in_turn
  turn-whole zero = tt
  turn-whole (suc r) = blocks-append (in_turn record_blocks r) (record_blocks r) (turn-whole r) (record-whole r)

  turn-count : (r : ℕ) → length (in_turn record_blocks r) ≡ before plan r
  unfolding in_turn before
  turn-count zero = refl
  turn-count (suc r) = length-append (in_turn record_blocks r) (record_blocks r) ∙ omega (arith, turn-count r, record-count r)

  pub plan-count : (r : ℕ) → length (plan_blocks image plan r) ≡ before plan r
  plan-count r = ap length (blocks-turn r) ∙ turn-count r

  -- there is always a block n, of 128 bytes
  pub block-length : (n : ℕ) → length (block_at image plan n) ≡ 128
  unfolding block_at
  block-length n =
      ap (λ (s : List (List ℕ)). length (get_or s n [])) (blocks-turn (n + 1))
      ∙ blocks_at (in_turn record_blocks (n + 1)) (turn-whole (n + 1)) n (omega (arith, turn-count (n + 1), before-least plan (n + 1)))

  -- more records begin with the blocks of fewer
  more_same : (a b n : ℕ) → a ≤ b → n < before plan a → get_or (plan_blocks image plan b) n [] ≡ get_or (plan_blocks image plan a) n []
  more_same a b n h l =
      let e : b ≡ a + (b - a) = omega arith in
      let rest : List (List ℕ) = in_turn (λ i. record_blocks (a + i)) (b - a) in
      ap (λ (s : List (List ℕ)). get_or s n []) (blocks-turn b ∙ ap (in_turn record_blocks) e ∙ turn-add record_blocks a (b - a))
      ∙ get_or-append (in_turn record_blocks a) rest [] n (omega (arith, turn-count a))
      ∙ ap (λ (s : List (List ℕ)). get_or s n []) (sym (blocks-turn a))

  -- so any number of records that has block n shows it
  pub block_in : (r n : ℕ) → n < before plan r → get_or (plan_blocks image plan r) n [] ≡ block_at image plan n
  unfolding block_at
  block_in r n l = by_order (dec_le r (n + 1))
    where
      by_order : Dec (r ≤ n + 1) → get_or (plan_blocks image plan r) n [] ≡ get_or (plan_blocks image plan (n + 1)) n []
      by_order (yes h) = sym (more_same r (n + 1) n h l)
      by_order (no h) = more_same (n + 1) r n (omega arith) (omega (arith, before-least plan (n + 1)))

  -- THE CURSOR: block n is block j of record r
  pub block-is : (r j n : ℕ) → before plan r + j ≡ n → j < count_of plan r
      → block_at image plan n ≡ get_or (page_blocks (page_at plan r) (held image [] (page_at plan r))) j []
  unfolding record_blocks
  block-is r j n e l =
      sym (block_in (r + 1) n (omega (arith, before_more plan r)))
      ∙ ap (λ (s : List (List ℕ)). get_or s n []) (blocks-turn (r + 1) ∙ turn-split record_blocks r (r + 1) (omega arith))
      ∙ ap (λ (k : ℕ). get_or ((in_turn record_blocks r ++ record_blocks r) ++ rest) k []) (sym e)
      ∙ get_or-append (in_turn record_blocks r ++ record_blocks r) rest [] (before plan r + j)
      (omega (arith, length-append (in_turn record_blocks r) (record_blocks r), turn-count r, record-count r))
      ∙ ap (λ (k : ℕ). get_or (in_turn record_blocks r ++ record_blocks r) (k + j) []) (sym (turn-count r))
      ∙ get_or-append-add (in_turn record_blocks r) (record_blocks r) j []
    where
      rest : List (List ℕ)
      rest = in_turn (λ i. record_blocks (r + 1 + i)) (r + 1 - (r + 1))

-- ---- which of a page's blocks it is

pub first-block : (p : Page) (bytes : List ℕ) → get_or (page_blocks p bytes) 0 [] ≡ head_block add_tag p.address
unfolding page_blocks
first-block p bytes = refl

module _ (p : Page) (bytes : List ℕ) (m : is_measured p ≡ true) (j : ℕ) (some : 0 < j) (few : j < 49) where
  -- block j is block (j - 1) % 3 of chunk (j - 1) / 3
  chunk-block : get_or (page_blocks p bytes) j [] ≡ get_or (chunk_blocks p.address bytes ((j - 1) / 3)) ((j - 1) % 3) []
  unfolding page_blocks extend_blocks chunk_blocks
  chunk-block =
      let e : j ≡ suc (3 * ((j - 1) / 3) + (j - 1) % 3) = omega arith in
      ap (λ (k : ℕ). get_or (page_blocks p bytes) k []) e
      ∙ rw m (get_or-turn (chunk_blocks p.address bytes) 3 16 ((j - 1) / 3) ((j - 1) % 3) [] (λ i. refl) (omega arith) (omega arith))

  pub chunk-head : (j - 1) % 3 ≡ 0 → get_or (page_blocks p bytes) j [] ≡ head_block extend_tag (p.address + 256 * ((j - 1) / 3))
  unfolding chunk_blocks
  chunk-head e = chunk-block ∙ rw e

  pub chunk-data : ((j - 1) % 3 ≡ 0 → ⊥)
      → get_or (page_blocks p bytes) j [] ≡ take 128 (drop (256 * ((j - 1) / 3) + 128 * ((j - 1) % 3 - 1)) bytes)
  unfolding chunk_blocks
  chunk-data h = chunk-block ∙ by_place ((j - 1) % 3) (omega arith) (omega arith)
    where
      by_place : (k : ℕ) → 0 < k → k < 3 → get_or (chunk_blocks p.address bytes ((j - 1) / 3)) k [] ≡ take 128 (drop (256 * ((j - 1) / 3) + 128 * (k - 1)) bytes)
      by_place zero l b = absurd (omega arith)
      by_place (suc zero) l b =
          let e : 256 * ((j - 1) / 3) ≡ 256 * ((j - 1) / 3) + 128 * (1 - 1) = omega arith in
          ap (λ (n : ℕ). take 128 (drop n bytes)) e
      by_place (suc (suc zero)) l b =
          let e : 256 * ((j - 1) / 3) + 128 ≡ 256 * ((j - 1) / 3) + 128 * (2 - 1) = omega arith in
          ap (λ (n : ℕ). take 128 (drop n bytes)) e
      by_place (suc (suc (suc k))) l b = absurd (omega arith)

-- ---- the block at a cursor, as the code makes it: p is the record's page

module _ (image plan : List ℕ) (r j : ℕ) (p : Page) (e : p ≡ page_at plan r) where
  pub at_first : j ≡ 0 → head_block add_tag p.address ≡ get_or (page_blocks (page_at plan r) (held image [] (page_at plan r))) j []
  at_first z = rw (z, ← e) (sym (first-block p (held image [] p)))

  module _ (some : j ≡ 0 → ⊥) (few : j < count_of plan r) where
    marked : is_measured p ≡ true
    marked = rw e (second-measured plan r j few (omega arith))

    below : j < 49
    below = omega (arith, count_most plan r)

    -- a chunk's address, modulo 2^64
    pub at_head : (j - 1) % 3 ≡ 0 → (a : ℕ) → a ≡ (p.address + 256 * ((j - 1) / 3)) % 2 ^ 64
        → head_block extend_tag a ≡ get_or (page_blocks (page_at plan r) (held image [] (page_at plan r))) j []
    at_head z a f =
        ap (head_block extend_tag) f
        ∙ head-wraps extend_tag (p.address + 256 * ((j - 1) / 3))
        ∙ rw (← e) (sym (chunk-head p (held image [] p) marked j (omega arith) below z))

    -- a chunk's half
    pub at-data : ((j - 1) % 3 ≡ 0 → ⊥) → (shown : List ℕ) → shown ≡ view image [] p.offset p.length p.sort
        → take 128 (drop (256 * ((j - 1) / 3) + 128 * ((j - 1) % 3 - 1)) (content shown))
        ≡ get_or (page_blocks (page_at plan r) (held image [] (page_at plan r))) j []
    unfolding held
    at-data h shown f =
        ap (λ (s : List ℕ). take 128 (drop (256 * ((j - 1) / 3) + 128 * ((j - 1) % 3 - 1)) (content s))) f
        ∙ rw (← e) (sym (chunk-data p (held image [] p) marked j (omega arith) below h))
