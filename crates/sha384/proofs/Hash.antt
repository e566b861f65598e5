-- How the definitions of specs/Hash grow: the message schedule by one word, the rounds by one, the hash value by one block;
-- and the last block or two of a message.
-- Assumes nothing.
use Rattle.std.proofs.Common.{◌≡◌, ℕ, zero, suc, ◌+◌, ◌-◌, ◌*◌, ◌/◌, ◌%◌, ◌<◌, ◌≤◌, List, [], ◌++◌, length, get_or, take, drop, set, replicate, sym, refl, ap, ◌∙◌, ap₂, append_assoc, add-zero, add-suc, add-one, arith, length-append, length-drop, take-append-drop, length-take-le, take_all, get_or-take, take-suc-set, le-ltb, lt-ltb}
use lib.Seq.{take-append-le, drop-append-le, drop-append-add}
use Rattle.sha384.specs.declared.State.{State}
use Rattle.sha384.specs.Words.{word_at}
use Rattle.sha384.specs.Constants.{K, H⁰}
use Rattle.sha384.specs.Padding.{zeros, padding, padded, block}
use Rattle.sha384.specs.Hash.{schedule, next_word, later_word, round, rounds, compressed, after, left384, sha384, finished}
use Rattle.sha384.proofs.Pad.{zeros-left, length-padding, padding-whole}

-- a state, word by word
pub state-is : {a b c d e f g h a' b' c' d' e' f' g' h' : ℕ} → a ≡ a' → b ≡ b' → c ≡ c' → d ≡ d' → e ≡ e' → f ≡ f' → g ≡ g' → h ≡ h'
    → ◌≡◌ {A = State} (record { a = a; b = b; c = c; d = d; e = e; f = f; g = g; h = h })
    (record { a = a'; b = b'; c = c'; d = d'; e = e'; f = f'; g = g'; h = h' })
state-is p q r s t u v w = cc

-- ---- the schedule

-- the first sixteen words are the block's
pub next-first : (M : List ℕ) (t : ℕ) (W : List ℕ) → t < 16 → next_word M t W ≡ word_at M (8 * t)
unfolding next_word
next-first M t W h = rw (lt-ltb t 16 h)

-- the others come from the words before
pub next-later : (M : List ℕ) (t : ℕ) (W : List ℕ) → 16 ≤ t
    → next_word M t W ≡ later_word (get_or W (t - 2) 0) (get_or W (t - 7) 0) (get_or W (t - 15) 0) (get_or W (t - 16) 0)
unfolding next_word
next-later M t W h = rw (le-ltb t 16 h)

-- and stand in an array that begins with the schedule so far
pub next-in : (M w : List ℕ) (t : ℕ) → 16 ≤ t → take t w ≡ schedule M t
    → next_word M t (schedule M t) ≡ later_word (get_or w (t - 2) 0) (get_or w (t - 7) 0) (get_or w (t - 15) 0) (get_or w (t - 16) 0)
next-in M w t h e =
    next-later M t (schedule M t) h
    ∙ rw (← e, get_or-take t w (t - 2) 0 (omega arith), get_or-take t w (t - 7) 0 (omega arith), get_or-take t w (t - 15) 0 (omega arith), get_or-take t w (t - 16) 0 (omega arith))

-- storing the next word makes the schedule one word longer
pub schedule-more : (M w : List ℕ) (t v : ℕ) → t < length w → take t w ≡ schedule M t → v ≡ next_word M t (schedule M t)
    → take (t + 1) (set w t v) ≡ schedule M (t + 1)
unfolding schedule
schedule-more M w t v h e p = rw (add-one t, take-suc-set w t v h, e, p)

-- ---- the rounds

pub rounds-more : (s v : State) (W : List ℕ) (t : ℕ) → v ≡ rounds s W t → round v (get_or K t 0) (get_or W t 0) ≡ rounds s W (t + 1)
unfolding rounds
rounds-more s v W t h = rw (add-one t, h)

-- ---- the blocks

pub after_none : (s : State) (m : List ℕ) → s ≡ after s m 0
unfolding after
after_none s m = refl

-- the blocks of the first part of a message
pub block-left : (xs ys : List ℕ) (i : ℕ) → 128 * i + 128 ≤ length xs → block (xs ++ ys) i ≡ block xs i
unfolding block
block-left xs ys i h =
    ap (λ (r : List ℕ). take 128 r) (drop-append-le (128 * i) xs ys (omega arith))
    ∙ take-append-le 128 (drop (128 * i) xs) ys (omega (arith, length-drop (128 * i) xs))

pub after-left : (s : State) (xs ys : List ℕ) (n : ℕ) → 128 * n ≤ length xs → after s (xs ++ ys) n ≡ after s xs n
unfolding after
after-left s xs ys zero h = refl
after-left s xs ys (suc n) h =
    ap₂ (λ (r : State) (b : List ℕ). compressed r b) (after-left s xs ys n (omega arith)) (block-left xs ys n (omega arith))

-- and those of what follows it, where it is q blocks long
pub block-right : (xs ys : List ℕ) (q i : ℕ) → length xs ≡ 128 * q → block (xs ++ ys) (q + i) ≡ block ys i
unfolding block
block-right xs ys q i e =
    let p : 128 * (q + i) ≡ length xs + 128 * i = omega arith in
    ap (λ (k : ℕ). take 128 (drop k (xs ++ ys))) p ∙ ap (λ (r : List ℕ). take 128 r) (drop-append-add xs ys (128 * i))

pub after-right : (s : State) (xs ys : List ℕ) (q n : ℕ) → length xs ≡ 128 * q → after s (xs ++ ys) (q + n) ≡ after (after s xs q) ys n
unfolding after
after-right s xs ys q zero e = rw (add-zero q) (after-left s xs ys q (omega arith))
after-right s xs ys q (suc n) e =
    rw (add-suc q n) (ap₂ (λ (r : State) (b : List ℕ). compressed r b) (after-right s xs ys q n e) (block-right xs ys q n e))

-- the hash of a message in pieces: its whole blocks, and then what is left
pub pieces : (m : List ℕ) (q : ℕ) → q ≡ length m / 128 → sha384 m ≡ finished (after H⁰ m q) (drop (128 * q) m) (length m)
unfolding sha384 finished padded
pieces m q e =
    let xs : List ℕ = take (128 * q) m in
    let ys : List ℕ = drop (128 * q) m ++ padding (length m) in
    let l : length xs ≡ 128 * q = length-take-le (128 * q) m (omega arith) in
    let split : m ++ padding (length m) ≡ xs ++ ys =
    ap (λ (r : List ℕ). r ++ padding (length m)) (sym (take-append-drop (128 * q) m))
    ∙ append_assoc xs (drop (128 * q) m) (padding (length m)) in
    let count : length (m ++ padding (length m)) / 128 ≡ q + length ys / 128 =
    ap (λ (r : List ℕ). length r / 128) split ∙ omega (arith, length-append xs ys) in
    let whole : after H⁰ xs q ≡ after H⁰ m q =
    sym (after-left H⁰ xs (drop (128 * q) m) q (omega arith)) ∙ ap (λ (r : List ℕ). after H⁰ r q) (take-append-drop (128 * q) m) in
    ap left384
    (ap₂ (λ (r : List ℕ) (n : ℕ). after H⁰ r n) split count
    ∙ after-right H⁰ xs ys q (length ys / 128) l
    ∙ ap (λ (r : State). after r ys (length ys / 128)) whole)

-- what is left and its padding take one block or two
two_blocks : (left : List ℕ) (n : ℕ) → length left ≡ n % 128 → (length left + 17 + zeros (length left) ≡ 128 → ⊥)
    → length left + 17 + zeros (length left) ≡ 256
unfolding zeros
two_blocks left n l h = omega arith

-- ---- the last block or two, as the code has them: what is left, its padding, and zeros up to 256 bytes
module _ (s : State) (left last : List ℕ) (n : ℕ) (l : length left ≡ n % 128)
    (e : last ≡ (left ++ padding n) ++ replicate (256 - length (left ++ padding n)) 0) where
  end_is : length (left ++ padding n) ≡ length left + 17 + zeros (length left)
  end_is =
      length-append left (padding n) ∙ omega (arith, length-padding n, ap zeros l ∙ zeros-left n)

  -- the blocks of it are those of the padded message
  blocks-are : (i : ℕ) → 128 * i + 128 ≤ length (left ++ padding n) → block (left ++ padding n) i ≡ take 128 (drop (128 * i) last)
  unfolding block
  blocks-are i h =
      sym (block-left (left ++ padding n) (replicate (256 - length (left ++ padding n)) 0) i h)
      ∙ ap (λ (r : List ℕ). take 128 (drop (128 * i) r)) (sym e)

  pub finished-one : length left + 17 + zeros (length left) ≡ 128 → left384 (compressed s (take 128 last)) ≡ finished s left n
  unfolding finished after
  finished-one h =
      let long : length (left ++ padding n) ≡ 128 = end_is ∙ h in
      ap (λ (b : List ℕ). left384 (compressed s b)) (sym (blocks-are 0 (omega arith)))
      ∙ ap (λ (k : ℕ). left384 (after s (left ++ padding n) (k / 128))) (sym long)

  pub finished-two : (length left + 17 + zeros (length left) ≡ 128 → ⊥)
      → left384 (compressed (compressed s (take 128 last)) (take 128 (drop 128 last))) ≡ finished s left n
  unfolding finished after
  finished-two h =
      let long : length (left ++ padding n) ≡ 256 = end_is ∙ two_blocks left n l h in
      ap₂ (λ (b b' : List ℕ). left384 (compressed (compressed s b) b')) (sym (blocks-are 0 (omega arith))) (sym (blocks-are 1 (omega arith)))
      ∙ ap (λ (k : ℕ). left384 (after s (left ++ padding n) (k / 128))) (sym long)

-- behind whole blocks the padding is one block, and the digest is of the hash value after it
pub finished-whole : (s : State) (q : ℕ) → finished s [] (128 * q) ≡ left384 (compressed s (padding (128 * q)))
unfolding finished after block
finished-whole s q =
    let b : List ℕ = padding (128 * q) in
    let long : length b ≡ 128 = padding-whole q in
    ap (λ (k : ℕ). left384 (after s b (k / 128))) long ∙ ap (λ (r : List ℕ). left384 (compressed s r)) (take_all 128 b (omega arith))

-- a message whose whole blocks are done, and whose rest is lent as a part of it
pub digested : (m : List ℕ) (s : State) (q : ℕ) → q ≡ length m / 128 → s ≡ after H⁰ m q
    → finished s (take (length m - 128 * (length m / 128)) (drop (128 * (length m / 128)) m)) (length m) ≡ sha384 m
digested m s q whole e =
    rw (e, ← whole, take_all (length m - 128 * q) (drop (128 * q) m) (omega (arith, length-drop (128 * q) m))) (sym (pieces m q whole))
