-- The measured stream tells what was loaded and no more: two streams are the same exactly if the launches add the same addresses
-- in the same order, measure the same ones, and the measured pages hold the same bytes. Assumes nothing.
use Rattle.std.proofs.Common.{◌≡◌, ℕ, zero, suc, ◌+◌, ◌*◌, ◌^◌, ◌<◌, Bool, true, false, ◌↔◌, List, [], ◌∷◌, ◌++◌, length, get_or, take, drop, replicate, sym, refl, ap, ◌∙◌, ap₂, true≢false, arith, take_all, drop-drop, take_at, ext_get_or, take-add, drop_at}
use mathlib.Core.Bool.{false≢true}
use Rattle.wire.specs.Number.{le}
use Rattle.wire.proofs.Digits.{length-le}
use Rattle.wire.proofs.Inverse.{le-injective}
use Rattle.verdict.specs.Rules.{pick}
use Rattle.verdict.specs.Turns.{in_turn}
use Rattle.verdict.proofs.Turns.{length-turn}
use Rattle.verdict.proofs.Each.{Each, each-cons}
use Rattle.plan.specs.declared.Page.{Page}
use Rattle.plan.specs.View.{held}
use Rattle.plan.proofs.Back.{Sized}
use Rattle.measure.specs.Stream.{add_tag, extend_tag, head_block, chunk_blocks, extend_blocks, is_measured, page_blocks, blocks_of, joined, stream}
use Rattle.measure.specs.Told.{added, marks, measured_bytes, SameLoad}
use Rattle.measure.proofs.Alike.{pick_same, blocks-alike}
use Rattle.measure.proofs.Length.{Blocks, joined_length, joined-block, held-length, blocks-of}

-- ---- lists

-- fronts of one length, taken off
front-told : {A : Type 0} (us vs rs ss : List A) → length us ≡ length vs → us ++ rs ≡ vs ++ ss → (us ≡ vs) × (rs ≡ ss)
front-told us vs rs ss l e = (
  sym (take_at us rs (length vs) l) ∙ ap (take (length vs)) e ∙ take_at vs ss (length vs) refl,
  sym (drop_at us rs (length vs) l) ∙ ap (drop (length vs)) e ∙ drop_at vs ss (length vs) refl,
)

-- blocks that make the same bytes are the same blocks
joined-told : (bs cs : List (List ℕ)) → Blocks bs → Blocks cs → joined bs ≡ joined cs → bs ≡ cs
joined-told bs cs h k e =
    let count : length bs ≡ length cs = omega (arith, joined_length bs h, joined_length cs k, ap length e) in
    ext_get_or [] bs cs count
    (λ i l. sym (joined-block bs h i l) ∙ ap (λ (s : List ℕ). take 128 (drop (128 * i) s)) e ∙ joined-block cs k i (omega arith))

-- ---- what a mark chooses

module _ {A : Type 0} where
  -- a front that is there or not
  pick-told : (m n : Bool) (us vs rs ss : List A) → length us ≡ length vs → m ≡ n → pick m us [] ++ rs ≡ pick n vs [] ++ ss
      → (m ≡ true → us ≡ vs) × (rs ≡ ss)
  pick-told true true us vs rs ss l e f = let t = front-told us vs rs ss l f in (λ h. t.0, t.1)
  pick-told true false us vs rs ss l e f = absurd (true≢false e)
  pick-told false true us vs rs ss l e f = absurd (false≢true e)
  pick-told false false us vs rs ss l e f = (λ h. absurd (false≢true h), f)

-- ---- a head block tells its address, and which of the two it is

head-told : (tag : List ℕ) (a b : ℕ) → a < 2 ^ 64 → b < 2 ^ 64 → head_block tag a ≡ head_block tag b → a ≡ b
unfolding head_block
head-told tag a b h k e =
    let front : List ℕ = take 16 (tag ++ replicate 16 0) in
    let zeros : List ℕ = replicate 104 0 in
    let behind = (front-told front front (le 8 a ++ zeros) (le 8 b ++ zeros) refl e).1 in
    le-injective 8 a b (front-told (le 8 a) (le 8 b) zeros zeros (length-le 8 a ∙ sym (length-le 8 b)) behind).0 h k

-- the tags differ at byte 1
tags-differ : (a b : ℕ) → head_block add_tag a ≡ head_block extend_tag b → ⊥
unfolding head_block add_tag extend_tag
tags-differ a b e =
    let byte : get_or (head_block add_tag a) 1 0 ≡ get_or (head_block extend_tag b) 1 0 = ap (λ (s : List ℕ). get_or s 1 0) e in
    omega arith

-- ---- the chunks tell the page's bytes

module _ (a b : ℕ) (xs ys : List ℕ) where
  chunk-told : (n : ℕ) → chunk_blocks a xs n ≡ chunk_blocks b ys n → take 256 (drop (256 * n) xs) ≡ take 256 (drop (256 * n) ys)
  unfolding chunk_blocks
  chunk-told n e =
      let first : take 128 (drop (256 * n) xs) ≡ take 128 (drop (256 * n) ys) = cc in
      let second : take 128 (drop (256 * n + 128) xs) ≡ take 128 (drop (256 * n + 128) ys) = cc in
      halves xs ∙ ap₂ (λ (l r : List ℕ). l ++ r) first second ∙ sym (halves ys)
    where
      halves : (s : List ℕ) → take 256 (drop (256 * n) s) ≡ take 128 (drop (256 * n) s) ++ take 128 (drop (256 * n + 128) s)
      halves s = take-add 128 128 (drop (256 * n) s) ∙ rw (drop-drop 128 (256 * n) s)

  -- the first n chunks
  chunks-told : (n : ℕ) → in_turn (chunk_blocks a xs) n ≡ in_turn (chunk_blocks b ys) n → take (256 * n) xs ≡ take (256 * n) ys
  unfolding in_turn chunk_blocks
  chunks-told zero e = refl
  chunks-told (suc n) e =
      let long = length-turn (chunk_blocks a xs) 3 n (λ i. refl) ∙ sym (length-turn (chunk_blocks b ys) 3 n (λ i. refl)) in
      let t = front-told (in_turn (chunk_blocks a xs) n) (in_turn (chunk_blocks b ys) n) (chunk_blocks a xs n) (chunk_blocks b ys n) long e in
      more xs ∙ ap₂ (λ (l r : List ℕ). l ++ r) (chunks-told n t.0) (chunk-told n t.1) ∙ sym (more ys)
    where
      more : (s : List ℕ) → take (256 * suc n) s ≡ take (256 * n) s ++ take 256 (drop (256 * n) s)
      more s = let size : 256 * suc n ≡ 256 * n + 256 = omega arith in rw size (take-add (256 * n) 256 s)

  extend-told : length xs ≡ 4096 → length ys ≡ 4096 → extend_blocks a xs ≡ extend_blocks b ys → xs ≡ ys
  unfolding extend_blocks
  extend-told h k e = sym (take_all 4096 xs (omega arith)) ∙ chunks-told 16 e ∙ take_all 4096 ys (omega arith)

extend-length : (a : ℕ) (xs : List ℕ) → length (extend_blocks a xs) ≡ 48
unfolding extend_blocks chunk_blocks
extend-length a xs = length-turn (chunk_blocks a xs) 3 16 (λ i. refl)

-- no list of pages begins with an EXTEND block, so that the end of a page's blocks is seen
no-extend : (image handoff : List ℕ) (ps : List Page) (a : ℕ) (xs : List ℕ) (rest : List (List ℕ))
    → extend_blocks a xs ++ rest ≡ blocks_of image handoff ps → ⊥
unfolding blocks_of page_blocks extend_blocks chunk_blocks in_turn
no-extend image handoff [] a xs rest e = omega (arith, ap length e)
no-extend image handoff (p ∷ ps) a xs rest e = tags-differ _ _ (ap (λ (s : List (List ℕ)). get_or s 0 []) (sym e))

-- ---- page by page

-- the eight bytes of a head block hold the page's address whole
abbrev pub Low : Page → Type 0
Low p = p.address < 2 ^ 64

module _ (image handoff image' handoff' : List ℕ) where
  -- what is told of one page
  record Alike (p q : Page) : Type 0 where
    address : p.address ≡ q.address
    mark : is_measured p ≡ is_measured q
    bytes : is_measured p ≡ true → held image handoff p ≡ held image' handoff' q

  mark-told : (ps qs : List Page) (a b : ℕ) (xs ys : List ℕ) (m n : Bool)
      → pick m (extend_blocks a xs) [] ++ blocks_of image handoff ps ≡ pick n (extend_blocks b ys) [] ++ blocks_of image' handoff' qs → m ≡ n
  mark-told ps qs a b xs ys true true e = refl
  mark-told ps qs a b xs ys true false e = absurd (no-extend image' handoff' qs a xs (blocks_of image handoff ps) e)
  mark-told ps qs a b xs ys false true e = absurd (no-extend image handoff ps b ys (blocks_of image' handoff' qs) (sym e))
  mark-told ps qs a b xs ys false false e = refl

  module _ (p q : Page) where
    module _ (ps qs : List Page) where
      -- the blocks of a page and of those behind it tell the page, and the blocks behind it
      page-told : Low p → Low q → blocks_of image handoff (p ∷ ps) ≡ blocks_of image' handoff' (q ∷ qs)
          → Alike p q × (blocks_of image handoff ps ≡ blocks_of image' handoff' qs)
      unfolding blocks_of page_blocks
      page-told low low' e =
          let xs : List ℕ = held image handoff p in
          let ys : List ℕ = held image' handoff' q in
          let us : List (List ℕ) = extend_blocks p.address xs in
          let vs : List (List ℕ) = extend_blocks q.address ys in
          let rs : List (List ℕ) = blocks_of image handoff ps in
          let ss : List (List ℕ) = blocks_of image' handoff' qs in
          let head : head_block add_tag p.address ≡ head_block add_tag q.address = cc in
          let behind : pick (is_measured p) us [] ++ rs ≡ pick (is_measured q) vs [] ++ ss = cc in
          let mark = mark-told ps qs p.address q.address xs ys (is_measured p) (is_measured q) behind in
          let long : length us ≡ length vs = extend-length p.address xs ∙ sym (extend-length q.address ys) in
          let t = pick-told (is_measured p) (is_measured q) us vs rs ss long mark behind in
          let told = extend-told p.address q.address xs ys (held-length image handoff p) (held-length image' handoff' q) in (
            record { address = head-told add_tag p.address q.address low low' head; mark = mark; bytes = λ h. told (t.0 h) },
            t.1,
          )

      -- what is loaded, page by page
      load_cons : SameLoad image handoff (p ∷ ps) image' handoff' (q ∷ qs) ↔ (Alike p q × SameLoad image handoff ps image' handoff' qs)
      unfolding added marks measured_bytes
      load_cons = (
        λ s.
            let a : added (p ∷ ps) ≡ added (q ∷ qs) = s.addresses in
            let m : marks (p ∷ ps) ≡ marks (q ∷ qs) = s.marked in
            let mark : is_measured p ≡ is_measured q = cc in
            let t = pick-told (is_measured p) (is_measured q) here there (measured_bytes image handoff ps) (measured_bytes image' handoff' qs) refl mark s.bytes in (
              record { address = cc; mark = mark; bytes = λ h. let f : here ≡ there = t.0 h in cc },
              record { addresses = cc; marked = cc; bytes = t.1 },
            ),
        λ h.
            let own = pick_same (is_measured p) (is_measured q) here there [] h.0.mark (λ t. ap (λ (x : List ℕ). x ∷ []) (h.0.bytes t)) in
            record {
              addresses = ap₂ (λ (x : ℕ) (xs : List ℕ). x ∷ xs) h.0.address h.1.addresses;
              marked = ap₂ (λ (x : Bool) (xs : List Bool). x ∷ xs) h.0.mark h.1.marked;
              bytes = ap₂ (λ (xs ys : List (List ℕ)). xs ++ ys) own h.1.bytes;
            },
      )
        where
          here : List (List ℕ)
          here = held image handoff p ∷ []

          there : List (List ℕ)
          there = held image' handoff' q ∷ []

  -- the blocks tell what was loaded
  load_told : (ps qs : List Page) → Each Low ps → Each Low qs → blocks_of image handoff ps ≡ blocks_of image' handoff' qs
      → SameLoad image handoff ps image' handoff' qs
  unfolding blocks_of page_blocks added marks measured_bytes
  load_told [] [] low low' e = record { addresses = refl; marked = refl; bytes = refl }
  load_told [] (q ∷ qs) low low' e = absurd (omega (arith, ap length e))
  load_told (p ∷ ps) [] low low' e = absurd (omega (arith, ap length e))
  load_told (p ∷ ps) (q ∷ qs) low low' e =
      let l = (each-cons Low p ps).0 low in
      let r = (each-cons Low q qs).0 low' in
      let t = page-told p q ps qs l.0 r.0 e in
      (load_cons p q ps qs).1 (t.0, load_told ps qs l.1 r.1 t.1)

  -- and no more
  blocks-same : (ps qs : List Page) → SameLoad image handoff ps image' handoff' qs → blocks_of image handoff ps ≡ blocks_of image' handoff' qs
  unfolding blocks_of added
  blocks-same [] [] s = refl
  blocks-same [] (q ∷ qs) s = absurd (omega (arith, ap length s.addresses))
  blocks-same (p ∷ ps) [] s = absurd (omega (arith, ap length s.addresses))
  blocks-same (p ∷ ps) (q ∷ qs) s =
      let t = (load_cons p q ps qs).0 s in
      ap₂ (λ (xs ys : List (List ℕ)). xs ++ ys) (blocks-alike p q (held image handoff p) (held image' handoff' q) t.0.address t.0.mark t.0.bytes) (blocks-same ps qs t.1)

-- ---- the stream

module _ (image handoff : List ℕ) (ps : List Page) (image' handoff' : List ℕ) (ps' : List Page) where
  -- "If two accepted launches have equal streams, they add the same addresses in the same order, measure the same ones, and the
  -- measured pages hold the same bytes"; of a launch only the addresses' bound is asked
  pub stream-told : Each Low ps → Each Low ps' → stream image handoff ps ≡ stream image' handoff' ps' → SameLoad image handoff ps image' handoff' ps'
  unfolding stream
  stream-told low low' e =
      load_told image handoff image' handoff' ps ps' low low'
      (joined-told (blocks_of image handoff ps) (blocks_of image' handoff' ps') (blocks-of image handoff ps).0 (blocks-of image' handoff' ps').0 e)

  -- "the converse holds too", and asks nothing
  pub load-stream : SameLoad image handoff ps image' handoff' ps' → stream image handoff ps ≡ stream image' handoff' ps'
  unfolding stream
  load-stream s = ap joined (blocks-same image handoff image' handoff' ps ps' s)

  -- THE THEOREM: the stream tells what was loaded and no more
  pub stream-same : Each Sized ps → Each Sized ps' → (stream image handoff ps ≡ stream image' handoff' ps') ↔ SameLoad image handoff ps image' handoff' ps'
  stream-same sized sized' = (stream-told (λ p m. (sized p m).address) (λ p m. (sized' p m).address), load-stream)
