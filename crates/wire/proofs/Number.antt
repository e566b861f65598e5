-- The number that bytes of a list hold, `number_at`, in parts of the list and after writes into it.
-- Assumes nothing.
use mathlib.Core.Path.{◌≡◌, refl, sym, ap, ap₂, ◌∙◌}
use Prim.Native.Nat.{ℕ, zero, suc, ◌+◌, ◌*◌, ◌^◌, ◌≤◌, ◌<◌}
use native.Mathlib.Nat.{add-zero, suc-add, zero-add, pow-succ', pow-zero, add_assoc, mul_assoc, one-mul}
use native.Mathlib.Numerals.{add-one}
use native.Mathlib.Omega.{arith}
use mathlib.Core.List.{List, ◌++◌}
use lib.Dec.{lit<}
use lib.ListN.{length, get_or, take, drop, replicate, get_or-append, get_or-eq_default}
use lib.Seq.{sets, get_or-take, get_or-drop, get_or-append-add}
use Rattle.wire.specs.Number.{Bytes, number_at}
use Rattle.wire.proofs.Sets.{across, get_or-sets_before, get_or-sets-after, get_or-sets-inside}

-- ---- one byte more, and some bytes more

pub number_at-step : (n : ℕ) (s : List ℕ) (at : ℕ) → number_at (suc n) s at ≡ get_or s at 0 + 256 * number_at n s (at + 1)
unfolding number_at
number_at-step n s at = ap (λ (k : ℕ). get_or s at 0 + 256 * number_at n s k) (sym (add-one at))

-- one byte is itself
pub number_at-one : (s : List ℕ) (at : ℕ) → number_at 1 s at ≡ get_or s at 0
unfolding number_at
number_at-one s at = omega arith

pub number_at-add : (n m : ℕ) (s : List ℕ) (at : ℕ) → number_at (n + m) s at ≡ number_at n s at + 256 ^ n * number_at m s (at + n)
unfolding number_at
number_at-add zero m s at =
    ap₂ (λ (a b : ℕ). number_at a s b) (zero-add m) (sym (add-zero at))
    ∙ omega (arith, pow-zero 256, one-mul (number_at m s (at + 0)))
number_at-add (suc n) m s at =
    let high : ℕ = number_at m s (suc at + n) in
    ap (λ (k : ℕ). number_at k s at) (suc-add n m)
    ∙ omega (arith, number_at-add n m s (suc at), mul_assoc 256 (256 ^ n) high)
    ∙ ap₂ (λ (p k : ℕ). get_or s at 0 + 256 * number_at n s (suc at) + p * number_at m s k) (sym (pow-succ' 256 n)) (sym (across at n))

-- ---- the number goes by its own bytes alone

pub number_at-same : (n : ℕ) (s t : List ℕ) (i j : ℕ) → ((k : ℕ) → k < n → get_or s (i + k) 0 ≡ get_or t (j + k) 0) → number_at n s i ≡ number_at n t j
unfolding number_at
number_at-same zero s t i j h = refl
number_at-same (suc n) s t i j h =
    ap₂ (λ (a b : ℕ). a + 256 * b)
    (ap (λ (k : ℕ). get_or s k 0) (sym (add-zero i)) ∙ h 0 (omega arith) ∙ ap (λ (k : ℕ). get_or t k 0) (add-zero j))
    (number_at-same n s t (suc i) (suc j)
    (λ k l. ap (λ (m : ℕ). get_or s m 0) (sym (across i k)) ∙ h (suc k) (omega arith) ∙ ap (λ (m : ℕ). get_or t m 0) (across j k)))

pub number_at-none : (n : ℕ) (s : List ℕ) (at : ℕ) → ((k : ℕ) → at ≤ k → get_or s k 0 ≡ 0) → number_at n s at ≡ 0
unfolding number_at
number_at-none zero s at h = refl
number_at-none (suc n) s at h = omega (arith, h at (omega arith), number_at-none n s (suc at) (λ k l. h k (omega arith)))

-- ---- parts

pub number_at-drop : (n d : ℕ) (s : List ℕ) (at : ℕ) → number_at n (drop d s) at ≡ number_at n s (d + at)
number_at-drop n d s at =
    number_at-same n (drop d s) s at (d + at) (λ k l. get_or-drop d s (at + k) 0 ∙ ap (λ (m : ℕ). get_or s m 0) (sym (add_assoc d at k)))

pub number_at-take : (n k : ℕ) (s : List ℕ) (at : ℕ) → at + n ≤ k → number_at n (take k s) at ≡ number_at n s at
number_at-take n k s at h = number_at-same n (take k s) s at at (λ j l. get_or-take k s (at + j) 0 (omega arith))

pub number_at-left : (n : ℕ) (xs ys : List ℕ) (at : ℕ) → at + n ≤ length xs → number_at n (xs ++ ys) at ≡ number_at n xs at
number_at-left n xs ys at h = number_at-same n (xs ++ ys) xs at at (λ k l. get_or-append xs ys 0 (at + k) (omega arith))

pub number_at-right : (n : ℕ) (xs ys : List ℕ) (i : ℕ) → number_at n (xs ++ ys) (length xs + i) ≡ number_at n ys i
number_at-right n xs ys i =
    number_at-same n (xs ++ ys) ys (length xs + i) i
    (λ k l. ap (λ (m : ℕ). get_or (xs ++ ys) m 0) (add_assoc (length xs) i k) ∙ get_or-append-add xs ys (i + k) 0)

-- the same, where the place is known by an equation
pub number_at-seam : (n : ℕ) (xs ys : List ℕ) (i j : ℕ) → length xs + i ≡ j → number_at n (xs ++ ys) j ≡ number_at n ys i
number_at-seam n xs ys i j e = ap (λ (k : ℕ). number_at n (xs ++ ys) k) (sym e) ∙ number_at-right n xs ys i

-- ---- nothing there

pub number_at-past : (n : ℕ) (s : List ℕ) (at : ℕ) → length s ≤ at → number_at n s at ≡ 0
number_at-past n s at h = number_at-none n s at (λ k l. get_or-eq_default s 0 (omega arith))

pub get_or-zeros : (m i : ℕ) → ◌≡◌ {A = ℕ} (get_or (replicate m 0) i 0) 0
get_or-zeros zero i = refl
get_or-zeros (suc m) zero = refl
get_or-zeros (suc m) (suc i) = get_or-zeros m i

pub number_at-zeros : (n m at : ℕ) → number_at n (replicate m 0) at ≡ 0
number_at-zeros n m at = number_at-none n (replicate m 0) at (λ k l. get_or-zeros m k)

-- ---- n bytes hold a number of n bytes

pub number_at-below : (n : ℕ) (s : List ℕ) (at : ℕ) → Bytes s → number_at n s at < 256 ^ n
unfolding number_at
number_at-below zero s at b = lit< tt
number_at-below (suc n) s at b = omega (arith, b at, pow-succ' 256 n, number_at-below n s (suc at) b)

-- ---- after a write

pub number_at-before : (n : ℕ) (l ys : List ℕ) (at i : ℕ) → i + n ≤ at → number_at n (sets l at ys) i ≡ number_at n l i
number_at-before n l ys at i h = number_at-same n (sets l at ys) l i i (λ k b. get_or-sets_before l ys at (i + k) 0 (omega arith))

pub number_at-after : (n : ℕ) (l ys : List ℕ) (at i : ℕ) → at + length ys ≤ i → number_at n (sets l at ys) i ≡ number_at n l i
number_at-after n l ys at i h = number_at-same n (sets l at ys) l i i (λ k b. get_or-sets-after l ys at (i + k) 0 (omega arith))

pub number_at-inside : (n : ℕ) (l ys : List ℕ) (at i : ℕ) → i + n ≤ length ys → at + length ys ≤ length l → number_at n (sets l at ys) (at + i) ≡ number_at n ys i
number_at-inside n l ys at i h b =
    number_at-same n (sets l at ys) ys (at + i) i
    (λ k p. ap (λ (m : ℕ). get_or (sets l at ys) m 0) (add_assoc at i k) ∙ get_or-sets-inside l ys at (i + k) 0 (omega arith) (omega arith))
