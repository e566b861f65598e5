-- The bytes of a number, `le`: how many, each below 256, one after the other, and what they leave out.
-- Assumes nothing.
use mathlib.Core.Path.{◌≡◌, refl, sym, ap, ap₂, ◌∙◌}
use Prim.Native.Nat.{ℕ, zero, suc, ◌+◌, ◌-◌, ◌*◌, ◌/◌, ◌%◌, ◌^◌, ◌≤◌, ◌<◌}
use native.Mathlib.Nat.{mod-lt, pow-succ', mul_assoc, add-mul-mod_self_left, add-mul-div_left, mod-add-div}
use native.Mathlib.Numerals.{sub-one}
use native.Mathlib.Omega.{arith}
use mathlib.Core.List.{List, ◌∷◌, ◌++◌, append-nil}
use lib.Dec.{lit<}
use lib.ListN.{length, set, replicate}
use lib.Seq.{sets}
use Rattle.std.proofs.lemmas.List.{drop_all}
use borrow.Rule.Slice.PartMut.{put_mid}
use Rattle.wire.specs.Number.{Bytes, le}
use Rattle.wire.proofs.Bytes.{bytes-nil, bytes-cons}
use Rattle.wire.proofs.Sets.{sets-cons, sets-front, part_sets}

-- the first byte, then the others: the step of a loop that counts n down
pub le_step : (n v : ℕ) → zero < n → v % 256 ∷ le (n - 1) (v / 256) ≡ le n v
unfolding le
le_step zero v h = absurd (omega arith)
le_step (suc n) v h = ap (λ (k : ℕ). v % 256 ∷ le k (v / 256)) (sub-one (suc n))

pub length-le : (n v : ℕ) → length (le n v) ≡ n
unfolding le
length-le zero v = refl
length-le (suc n) v = ap suc (length-le n (v / 256))

pub bytes_le : (n v : ℕ) → Bytes (le n v)
unfolding le
bytes_le zero v = bytes-nil
bytes_le (suc n) v = bytes-cons (v % 256) (le n (v / 256)) (mod-lt v (lit< tt)) (bytes_le n (v / 256))

pub le-zero : (n : ℕ) → le n 0 ≡ replicate n 0
unfolding le
le-zero zero = refl
le-zero (suc n) = ap (λ (r : List ℕ). 0 ∷ r) (le-zero n)

-- what n bytes do not hold is left out
pub le-add : (n y q : ℕ) → le n (y + 256 ^ n * q) ≡ le n y
unfolding le
le-add zero y q = refl
le-add (suc n) y q =
    ap (λ (k : ℕ). (y + k) % 256 ∷ le n ((y + k) / 256)) (ap (λ (p : ℕ). p * q) (pow-succ' 256 n) ∙ mul_assoc 256 (256 ^ n) q)
    ∙ ap₂ (λ (a b : ℕ). a ∷ le n b) (add-mul-mod_self_left y 256 (256 ^ n * q)) (add-mul-div_left y (256 ^ n * q) (lit< tt))
    ∙ ap (λ (r : List ℕ). y % 256 ∷ r) (le-add n (y / 256) q)

pub le-mod : (n v : ℕ) → le n (v % 256 ^ n) ≡ le n v
le-mod n v = sym (le-add n (v % 256 ^ n) (v / 256 ^ n)) ∙ ap (λ (k : ℕ). le n k) (mod-add-div v (256 ^ n))

-- ---- a loop that writes the bytes of v over the n elements of a part

-- a turn: the first byte of what is left
pub le-next : (l : List ℕ) (i n v : ℕ) → i < n → sets (set l i (v % 256)) (i + 1) (le (n - (i + 1)) (v / 256)) ≡ sets l i (le (n - i) v)
le-next l i n v h =
    let left : n - (i + 1) ≡ n - i - 1 = omega arith in
    ap (λ (k : ℕ). sets (set l i (v % 256)) (i + 1) (le k (v / 256))) left
    ∙ sets-cons l (le (n - i - 1) (v / 256)) i (v % 256)
    ∙ ap (λ (r : List ℕ). sets l i r) (le_step (n - i) v (omega arith))

-- before the first turn all bytes are left
pub le-first : (l : List ℕ) (k n v : ℕ) → length l ≡ n → k ≡ n → sets l 0 (le k v) ≡ le n v
le-first l k n v h e =
    sets-front l (le k v) (omega (arith, length-le k v))
    ∙ ap (λ (r : List ℕ). le k v ++ r) (drop_all (length (le k v)) l (omega (arith, length-le k v)))
    ∙ append-nil (le k v)
    ∙ ap (λ (m : ℕ). le m v) e

-- after the last turn none is left
pub le-last : (l : List ℕ) (i n v : ℕ) → n ≤ i → sets l i (le (n - i) v) ≡ l
unfolding le
le-last l i n v h =
    let left : n - i ≡ 0 = omega arith in
    ap (λ (k : ℕ). sets l i (le k v)) left

pub ruleset put_steps = (le-next, le-first, le-last)

-- written to a part, the bytes stand in its buffer
pub le_part : (l xs : List ℕ) (at k n m v : ℕ) → xs ≡ le m v → m ≡ n → k ≡ n → at + n ≤ length l → put_mid at k l xs ≡ sets l at (le n v)
le_part l xs at k n m v e g f h =
    part_sets l xs (le n v) at k (e ∙ ap (λ (i : ℕ). le i v) g) (omega (arith, length-le n v)) (omega arith)
