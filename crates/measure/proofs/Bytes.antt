-- The bytes of a block as the code makes them: a head, a data block with its zero tail, and a record that the buffer's end cuts.
-- Assumes nothing.
use Rattle.std.proofs.Common.{◌≡◌, ℕ, zero, suc, ◌+◌, ◌-◌, ◌*◌, ◌%◌, ◌^◌, ◌<◌, ◌≤◌, min, List, [], ◌∷◌, ◌++◌, length, get_or, take, drop, replicate, sym, refl, ap, ◌∙◌, append_assoc, arith, length-append, length-drop, drop_of_length-le, length-take-le, get_or-drop, take_all, get_or-take, ext_get_or}
use native.Mathlib.Decide.{dec_le}
use lib.ListN.{length-replicate}
use Rattle.std.proofs.lemmas.List.{take-replicate}
use lib.Seq.{sets, take-append-add}
use Rattle.wire.specs.Number.{le, number_at}
use Rattle.wire.proofs.Sets.{sets_then, sets-replicate, sets-gap}
use Rattle.wire.proofs.Digits.{length-le, le-mod}
use Rattle.wire.proofs.Number.{number_at-same, get_or-zeros}
use Rattle.plan.specs.Plan.{page_at}
use Rattle.plan.specs.View.{content}
use Rattle.measure.specs.Stream.{head_block}
use Rattle.measure.proofs.Length.{content-length}

-- ---- a head block

-- the tag and the address, written into zeros
pub head-is : (tag b h : List ℕ) (address : ℕ) → length tag ≤ 16 → b ≡ sets (replicate 128 0) 0 tag → h ≡ sets b 16 (le 8 address) → h ≡ head_block tag address
unfolding head_block
head-is tag b h address l e f =
    let z : List ℕ = replicate 128 0 in
    let k : ℕ = 16 - length tag in
    let front : List ℕ = tag ++ replicate k 0 in
    let long : length front ≡ 16 = length-append tag (replicate k 0) ∙ omega (arith, length-replicate {A = ℕ} k 0) in
    let cut : take 16 (tag ++ replicate 16 0) ≡ front =
    let size : 16 ≡ length tag + k = omega arith in
    ap (λ (n : ℕ). take n (tag ++ replicate 16 0)) size
    ∙ take-append-add tag (replicate 16 0) k
    ∙ ap (λ (r : List ℕ). tag ++ r) (take-replicate k 16 0 (omega arith)) in
    let both : length (front ++ le 8 address) ≡ 24 = length-append front (le 8 address) ∙ omega (arith, length-le 8 address) in
    f
    ∙ ap (λ (r : List ℕ). sets r 16 (le 8 address)) (e ∙ sets-gap 128 k 0 tag (omega arith))
    ∙ sets_then z front (le 8 address) 0 16 (omega arith)
    ∙ sets-replicate 128 0 (front ++ le 8 address) (omega arith)
    ∙ ap (λ (n : ℕ). (front ++ le 8 address) ++ replicate (128 - n) 0) both
    ∙ append_assoc front (le 8 address) (replicate 104 0)
    ∙ ap (λ (r : List ℕ). r ++ (le 8 address ++ replicate 104 0)) (sym cut)

-- the address takes eight bytes, so it may be taken modulo 2^64
pub head-wraps : (tag : List ℕ) (address : ℕ) → head_block tag (address % 2 ^ 64) ≡ head_block tag address
unfolding head_block
head-wraps tag address = ap (λ (r : List ℕ). take 16 (tag ++ replicate 16 0) ++ (r ++ replicate 104 0)) (le-mod 8 address)

-- ---- zeros behind

get_or-padded : (s : List ℕ) (m k : ℕ) → get_or (s ++ replicate m 0) k 0 ≡ get_or s k 0
get_or-padded [] m k = get_or-zeros m k
get_or-padded (x ∷ s) m zero = refl
get_or-padded (x ∷ s) m (suc k) = get_or-padded s m k

-- the part from a place on, or none where the place is past the end
pub from_on : (s : List ℕ) (at first : ℕ) → first ≡ min at (length s) → take (length s - first) (drop first s) ≡ drop at s
from_on s at first e = take_all (length s - first) (drop first s) (omega (arith, length-drop first s)) ∙ by_order (dec_le at (length s))
  where
    by_order : Dec (at ≤ length s) → drop first s ≡ drop at s
    by_order (yes h) = let same : first ≡ at = omega arith in ap (λ (n : ℕ). drop n s) same
    by_order (no h) = drop_of_length-le s {i = first} (omega arith) ∙ sym (drop_of_length-le s {i = at} (omega arith))

-- what is left from `at` on, written into n zeros, reads as the list from there on
module _ (s b : List ℕ) (n at first : ℕ) (f : first ≡ min at (length s)) (e : b ≡ sets (replicate n 0) 0 (take (length s - first) (drop first s)))
    (few : length s - at ≤ n) where
  tail-is : b ≡ drop at s ++ replicate (n - length (drop at s)) 0
  tail-is =
      e ∙ ap (λ (r : List ℕ). sets (replicate n 0) 0 r) (from_on s at first f) ∙ sets-replicate n 0 (drop at s) (omega (arith, length-drop at s))

  tail-length : length b ≡ n
  tail-length =
      ap length tail-is
      ∙ length-append (drop at s) (replicate (n - length (drop at s)) 0)
      ∙ omega (arith, length-drop at s, length-replicate {A = ℕ} (n - length (drop at s)) 0)

  pub tail_at : (i : ℕ) → get_or b i 0 ≡ get_or s (at + i) 0
  tail_at i = ap (λ (r : List ℕ). get_or r i 0) tail-is ∙ get_or-padded (drop at s) (n - length (drop at s)) i ∙ get_or-drop at s i 0

-- ---- a data block

module _ (s : List ℕ) (at : ℕ) (inside : at + 128 ≤ 4096) where
  block-length : length (take 128 (drop at (content s))) ≡ 128
  block-length = length-take-le 128 (drop at (content s)) (omega (arith, length-drop at (content s), content-length s))

  block_at : (i : ℕ) → i < 128 → get_or (take 128 (drop at (content s))) i 0 ≡ get_or s (at + i) 0
  unfolding content
  block_at i h =
      get_or-take 128 (drop at (content s)) i 0 h
      ∙ get_or-drop at (content s) i 0
      ∙ get_or-take 4096 (s ++ replicate 4096 0) (at + i) 0 (omega arith)
      ∙ get_or-padded s 4096 (at + i)

  -- one that lies wholly in what is shown
  pub data-whole : at + 128 ≤ length s → take (at + 128 - at) (drop at s) ≡ take 128 (drop at (content s))
  data-whole h =
      let size : at + 128 - at ≡ 128 = omega arith in
      let long : length (take 128 (drop at s)) ≡ 128 = length-take-le 128 (drop at s) (omega (arith, length-drop at s)) in
      ap (λ (n : ℕ). take n (drop at s)) size
      ∙ ext_get_or 0 (take 128 (drop at s)) (take 128 (drop at (content s))) (long ∙ sym block-length)
      (λ i l. get_or-take 128 (drop at s) i 0 (omega arith) ∙ get_or-drop at s i 0 ∙ sym (block_at i (omega arith)))

  -- and one with a zero tail
  pub data-tail : (b : List ℕ) (first : ℕ) → first ≡ min at (length s) → b ≡ sets (replicate 128 0) 0 (take (length s - first) (drop first s))
      → length s < at + 128 → b ≡ take 128 (drop at (content s))
  data-tail b first f e h =
      let few : length s - at ≤ 128 = omega arith in
      let long : length b ≡ 128 = tail-length s b 128 at first f e few in
      ext_get_or 0 b (take 128 (drop at (content s))) (long ∙ sym block-length)
      (λ i l. tail_at s b 128 at first f e few i ∙ sym (block_at i (omega arith)))

-- ---- a record

-- a record goes by its sixteen bytes
pub page-same : (s t : List ℕ) (i j : ℕ) → ((k : ℕ) → k < 16 → get_or s (16 * i + k) 0 ≡ get_or t (16 * j + k) 0) → page_at s i ≡ page_at t j
unfolding page_at
page-same s t i j h =
    let at : (n k : ℕ) → k + n ≤ 16 → number_at n s (16 * i + k) ≡ number_at n t (16 * j + k) =
    λ n k l. number_at-same n s t (16 * i + k) (16 * j + k) (λ m b. moved n k m (omega arith)) in
    let first : number_at 8 s (16 * i) ≡ number_at 8 t (16 * j) = number_at-same 8 s t (16 * i) (16 * j) (λ m b. h m (omega arith)) in
    rw (first, at 4 8 (omega arith), at 2 12 (omega arith), at 1 14 (omega arith), at 1 15 (omega arith))
  where
    moved : (n k m : ℕ) → k + m < 16 → get_or s (16 * i + k + m) 0 ≡ get_or t (16 * j + k + m) 0
    moved n k m l =
        let p : 16 * i + k + m ≡ 16 * i + (k + m) = omega arith in
        let q : 16 * j + (k + m) ≡ 16 * j + k + m = omega arith in
        ap (λ (x : ℕ). get_or s x 0) p ∙ h (k + m) l ∙ ap (λ (x : ℕ). get_or t x 0) q

-- one that lies wholly in the buffer
pub page-whole : (plan : List ℕ) (i : ℕ) → page_at (take (16 * i + 16 - 16 * i) (drop (16 * i) plan)) 0 ≡ page_at plan i
page-whole plan i =
    page-same (take (16 * i + 16 - 16 * i) (drop (16 * i) plan)) plan 0 i
    (λ k l. let z : 16 * 0 + k ≡ k = omega arith in
    ap (λ (n : ℕ). get_or (take (16 * i + 16 - 16 * i) (drop (16 * i) plan)) n 0) z
    ∙ get_or-take (16 * i + 16 - 16 * i) (drop (16 * i) plan) k 0 (omega arith)
    ∙ get_or-drop (16 * i) plan k 0)

-- and one that the buffer's end cuts, or that is past it
pub page-cut : (plan b : List ℕ) (i first : ℕ) → first ≡ min (16 * i) (length plan)
    → b ≡ sets (replicate 16 0) 0 (take (length plan - first) (drop first plan)) → length plan < 16 * i + 16 → page_at b 0 ≡ page_at plan i
page-cut plan b i first f e h =
    page-same b plan 0 i
    (λ k l. let z : 16 * 0 + k ≡ k = omega arith in
    ap (λ (n : ℕ). get_or b n 0) z ∙ tail_at plan b 16 (16 * i) first f e (omega arith) k)
