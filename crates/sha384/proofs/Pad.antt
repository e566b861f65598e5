-- The padding of FIPS 180-4, section 5.1.2: how long it is, that it is the least, and its length field in two words; and
-- what the code writes of it, and of the digest, into an array of zeros.
-- Assumes nothing.
use Rattle.std.proofs.Common.{◌≡◌, ℕ, zero, suc, ◌+◌, ◌-◌, ◌*◌, ◌/◌, ◌%◌, ◌^◌, ◌≤◌, List, [], ◌∷◌, ◌++◌, reverse, length, set, replicate, sym, refl, ap, ◌∙◌, ap₂, append_assoc, append-nil, add-zero, add-suc, div-one, arith, length-append, take, drop, drop-drop, take_all}
use native.Mathlib.Nat.{div-div-eq-div-mul, pow-succ'}
use mathlib.Core.List.{reverse_aux-eq}
use lib.ListN.{length-replicate, length-reverse}
use lib.Seq.{sets, sets-eq}
use borrow.Rule.Slice.PartMut.{put_mid}
use Rattle.std.specs.Int.{to_be_bytes, w64}
use Rattle.wire.specs.Number.{le}
use Rattle.wire.proofs.Digits.{length-le, le-mod}
use Rattle.wire.proofs.Sets.{sets_then, sets-gap, sets-replicate}
use Rattle.sha384.specs.declared.State.{State}
use Rattle.sha384.specs.Words.{bytes}
use Rattle.sha384.specs.Padding.{zeros, padding}
use Rattle.sha384.specs.Hash.{left384}

-- 5.1.2 asks of the zeros that the padded message is whole blocks but for its length field
pub zeros-solve : (n : ℕ) → (n + 1 + zeros n) % 128 ≡ 112
unfolding zeros
zeros-solve n = omega arith

-- and that they are the fewest that do
pub zeros-least : (n k : ℕ) → (n + 1 + k) % 128 ≡ 112 → zeros n ≤ k
unfolding zeros
zeros-least n k h = omega arith

-- so that what is left of the message and its padding take two blocks at most
pub zeros-fit : (n : ℕ) → n % 128 + 17 + zeros n ≤ 256
unfolding zeros
zeros-fit n = omega arith

-- they go by what is left of the message behind its whole blocks
pub zeros-left : (n : ℕ) → zeros (n % 128) ≡ zeros n
unfolding zeros
zeros-left n = omega arith

-- the bytes of a number, the most significant first, are the little-endian ones reversed
bytes_le : (n v : ℕ) → bytes n v ≡ reverse (le n v)
unfolding bytes le
bytes_le zero v = refl
bytes_le (suc n) v = ap (λ (r : List ℕ). r ++ (v % 256 ∷ [])) (bytes_le n (v / 256)) ∙ sym (reverse_aux-eq (le n (v / 256)) (v % 256 ∷ []))

pub length-bytes : (n v : ℕ) → length (bytes n v) ≡ n
length-bytes n v = ap length (bytes_le n v) ∙ length-reverse (le n v) ∙ length-le n v

bytes-mod : (n v : ℕ) → bytes n (v % 256 ^ n) ≡ bytes n v
bytes-mod n v = bytes_le n (v % 256 ^ n) ∙ ap reverse (le-mod n v) ∙ sym (bytes_le n v)

-- the high bytes, then the low ones
bytes-split : (m k v : ℕ) → bytes (m + k) v ≡ bytes m (v / 256 ^ k) ++ bytes k v
unfolding bytes
bytes-split m zero v =
    ap₂ (λ (i w : ℕ). bytes i w) (add-zero m) (sym (div-one v)) ∙ sym (append-nil (bytes m (v / 1)))
bytes-split m (suc k) v =
    ap (λ (i : ℕ). bytes i v) (add-suc m k)
    ∙ ap (λ (r : List ℕ). r ++ (v % 256 ∷ [])) (bytes-split m k (v / 256))
    ∙ append_assoc (bytes m (v / 256 / 256 ^ k)) (bytes k (v / 256)) (v % 256 ∷ [])
    ∙ ap (λ (w : ℕ). bytes m w ++ (bytes k (v / 256) ++ (v % 256 ∷ [])))
    (div-div-eq-div-mul v 256 (256 ^ k) ∙ ap (λ (p : ℕ). v / p) (sym (pow-succ' 256 k)))

-- those of a word are std's
pub word-bytes : (v : ℕ) → to_be_bytes w64 v ≡ bytes 8 v
unfolding bytes
word-bytes v = simp div-div-eq-div-mul

-- as many of them as there are, from the first on, are all
pub word_whole : (ys zs : List ℕ) (v n : ℕ) → ys ≡ take n (drop 0 zs) → zs ≡ to_be_bytes w64 v → n ≡ 8 → ys ≡ to_be_bytes w64 v
word_whole ys zs v n e f h =
    e ∙ ap (λ (r : List ℕ). take n r) f ∙ take_all n (to_be_bytes w64 v) (omega (arith, ap length (word-bytes v), length-bytes 8 v, h))

-- writing them over a part of the buffer
pub word_written : (b ys : List ℕ) (at v n : ℕ) → at + 8 ≤ length b → n ≡ at + 8 - at → ys ≡ to_be_bytes w64 v → put_mid at n b ys ≡ sets b at (bytes 8 v)
word_written b ys at v n h l e =
    let same : ys ≡ bytes 8 v = e ∙ word-bytes v in
    let whole : n ≡ length (bytes 8 v) = omega (arith, length-bytes 8 v) in
    rw (same, whole, drop-drop) (sym (sets-eq (bytes 8 v) b at (omega (arith, length-bytes 8 v)) ∙ append_assoc (take at b) (bytes 8 v) (drop (at + length (bytes 8 v)) b)))

-- the length field, 8 * n in 128 bits, in two words neither of which needs the product whole
pub length-field : (n : ℕ) → bytes 16 (8 * n) ≡ bytes 8 (n / 2 ^ 61) ++ bytes 8 (n % 2 ^ 61 * 8)
length-field n =
    let high : 8 * n / 256 ^ 8 ≡ n / 2 ^ 61 = omega arith in
    let low : 8 * n % 256 ^ 8 ≡ n % 2 ^ 61 * 8 = omega arith in
    bytes-split 8 8 (8 * n)
    ∙ ap₂ (λ (h l : List ℕ). h ++ l) (ap (bytes 8) high) (sym (bytes-mod 8 (8 * n)) ∙ ap (bytes 8) low)

pub length-padding : (n : ℕ) → length (padding n) ≡ 17 + zeros n
unfolding padding
length-padding n =
    ap suc (length-append (replicate (zeros n) 0) (bytes 16 (8 * n)))
    ∙ omega (arith, length-replicate {A = ℕ} (zeros n) 0, length-bytes 16 (8 * n))

-- after a message of whole blocks the padding is one block, so that a digest of q blocks takes q + 1
pub padding-whole : (q : ℕ) → length (padding (128 * q)) ≡ 128
unfolding zeros
padding-whole q = length-padding (128 * q) ∙ omega arith

-- ---- what the code writes into zeros, from the front on

-- b is N zeros with xs, which are i bytes, written at its start
record Begun (N : ℕ) (b xs : List ℕ) (i : ℕ) : Type 0 where
  long : length xs ≡ i
  is : b ≡ sets (replicate N 0) 0 xs

-- the next bytes are written behind them
begun_more : {N : ℕ} {b b' xs : List ℕ} {i j : ℕ} (ys : List ℕ) → i + length ys ≡ j → Begun N b xs i → b' ≡ sets b i ys → Begun N b' (xs ++ ys) j
begun_more {N} {b} {b'} {xs} {i} ys l h e =
    record {
      long = length-append xs ys ∙ omega (arith, h.long, l);
      is = e ∙ ap (λ (r : List ℕ). sets r i ys) h.is ∙ sets_then (replicate N 0) xs ys 0 i (omega (arith, h.long));
    }

-- a word is
begun-word : {N : ℕ} {b b' xs : List ℕ} {i j : ℕ} (w : ℕ) → i + 8 ≡ j → Begun N b xs i → b' ≡ sets b i (bytes 8 w) → Begun N b' (xs ++ bytes 8 w) j
begun-word {i = i} w l h e = begun_more (bytes 8 w) (ap (λ (k : ℕ). i + k) (length-bytes 8 w) ∙ l) h e

-- what is passed over is zeros
begun-zeros : {N : ℕ} {b xs : List ℕ} {i j : ℕ} (k : ℕ) → i + k ≡ j → j ≤ N → Begun N b xs i → Begun N b (xs ++ replicate k 0) j
begun-zeros {N} {b} {xs} k l f h =
    record {
      long = length-append xs (replicate k 0) ∙ omega (arith, h.long, length-replicate {A = ℕ} k 0, l);
      is = h.is ∙ sets-gap N k 0 xs (omega (arith, h.long, l, f));
    }

-- and so is the rest
begun-end : {N : ℕ} {b xs : List ℕ} {i : ℕ} → i ≤ N → Begun N b xs i → b ≡ xs ++ replicate (N - length xs) 0
begun-end {N} {b} {xs} f h = h.is ∙ sets-replicate N 0 xs (omega (arith, h.long, f))

-- with no rest, they are all
full : {N : ℕ} {b xs : List ℕ} → Begun N b xs N → b ≡ xs
full {N} {b} {xs} h =
    let none : N - length xs ≡ 0 = omega (arith, h.long) in
    begun-end (omega arith) h ∙ ap (λ (n : ℕ). xs ++ replicate n 0) none ∙ append-nil xs

padding-parts : (left : List ℕ) (n : ℕ)
    → (((left ++ (0x80 ∷ [])) ++ replicate (zeros n) 0) ++ bytes 8 (n / 2 ^ 61)) ++ bytes 8 (n % 2 ^ 61 * 8) ≡ left ++ padding n
unfolding padding
padding-parts left n = rw (length-field n) (simp append_assoc)

-- the last block or two: what is left, the bit 1, a gap of zeros, and the two words of the length
pub last-is : (left b₁ b₂ b₃ : List ℕ) (n behind : ℕ) → length left ≡ n % 128 → behind ≡ length left + 17 + zeros (length left)
    → b₁ ≡ sets (replicate 256 0) 0 left
    → b₂ ≡ sets (set b₁ (length left) 0x80) (behind - 16) (bytes 8 (n / 2 ^ 61))
    → b₃ ≡ sets b₂ (behind - 8) (bytes 8 (n % 2 ^ 61 * 8))
    → b₃ ≡ (left ++ padding n) ++ replicate (256 - length (left ++ padding n)) 0
last-is left b₁ b₂ b₃ n behind l b e₁ e₂ e₃ =
    let end : behind ≡ length left + 17 + zeros n = b ∙ ap (λ (z : ℕ). length left + 17 + z) (ap zeros l ∙ zeros-left n) in
    let fit : behind ≤ 256 = omega (arith, end, l, zeros-fit n) in
    let copied : Begun 256 b₁ left (length left) = record { long = refl; is = e₁ } in
    let marked : Begun 256 (set b₁ (length left) 0x80) (left ++ (0x80 ∷ [])) (length left + 1) =
    begun_more (0x80 ∷ []) refl copied refl in
    let passed : Begun 256 (set b₁ (length left) 0x80) ((left ++ (0x80 ∷ [])) ++ replicate (zeros n) 0) (behind - 16) =
    begun-zeros (zeros n) (omega (arith, end)) (omega (arith, fit)) marked in
    begun-end fit (begun-word (n % 2 ^ 61 * 8) (omega (arith, end)) (begun-word {j = behind - 8} (n / 2 ^ 61) (omega (arith, end)) passed e₂) e₃)
    ∙ ap (λ (r : List ℕ). r ++ replicate (256 - length r) 0) (padding-parts left n)

-- the padding's block behind n whole blocks: the bit 1, a gap of zeros, and the two words of the length
pub whole_is : (b₁ b₂ : List ℕ) (n : ℕ)
    → b₁ ≡ sets (set (replicate 128 0) 0 0x80) 112 (bytes 8 (n / 2 ^ 54))
    → b₂ ≡ sets b₁ 120 (bytes 8 (n % 2 ^ 54 * 1024))
    → b₂ ≡ padding (128 * n)
unfolding zeros
whole_is b₁ b₂ n e₁ e₂ =
    let m : ℕ = 128 * n in
    let high : n / 2 ^ 54 ≡ m / 2 ^ 61 = omega arith in
    let low : n % 2 ^ 54 * 1024 ≡ m % 2 ^ 61 * 8 = omega arith in
    let gap : zeros m ≡ 111 = omega arith in
    let marked : Begun 128 (set (replicate 128 0) 0 0x80) (0x80 ∷ []) 1 = record { long = refl; is = refl } in
    let passed : Begun 128 (set (replicate 128 0) 0 0x80) ((0x80 ∷ []) ++ replicate (zeros m) 0) 112 =
    begun-zeros (zeros m) (omega (arith, gap)) (omega arith) marked in
    full
    (begun-word (m % 2 ^ 61 * 8) refl (begun-word (m / 2 ^ 61) refl passed (e₁ ∙ ap (λ (w : ℕ). sets (set (replicate 128 0) 0 0x80) 112 (bytes 8 w)) high))
    (e₂ ∙ ap (λ (w : ℕ). sets b₁ 120 (bytes 8 w)) low))
    ∙ padding-parts [] m

-- the digest, word by word
pub digest-is : (s : State) (b₁ b₂ b₃ b₄ b₅ b₆ : List ℕ)
    → b₁ ≡ sets (replicate 48 0) 0 (bytes 8 s.a)
    → b₂ ≡ sets b₁ 8 (bytes 8 s.b)
    → b₃ ≡ sets b₂ 16 (bytes 8 s.c)
    → b₄ ≡ sets b₃ 24 (bytes 8 s.d)
    → b₅ ≡ sets b₄ 32 (bytes 8 s.e)
    → b₆ ≡ sets b₅ 40 (bytes 8 s.f)
    → b₆ ≡ left384 s
unfolding left384
digest-is s b₁ b₂ b₃ b₄ b₅ b₆ e₁ e₂ e₃ e₄ e₅ e₆ =
    let one : Begun 48 b₁ (bytes 8 s.a) 8 = record { long = length-bytes 8 s.a; is = e₁ } in
    full
    (begun-word s.f refl
    (begun-word s.e refl (begun-word s.d refl (begun-word s.c refl (begun-word s.b refl one e₂) e₃) e₄) e₅)
    e₆)
