-- Digits in a base: how many there are, what they hold, and writing them from the last one on. `code v` is the code of the last digit
-- of v, and `worth c` what a digit of code c counts. Assumes nothing.
use mathlib.Core.Path.{◌≡◌, refl, sym, ap, subst, ◌∙◌}
use mathlib.Core.List.{List, [], ◌∷◌, ◌++◌}
use Prim.Native.Nat.{ℕ, zero, suc, ◌+◌, ◌-◌, ◌*◌, ◌/◌, ◌%◌, ◌^◌, ◌<◌}
use native.Mathlib.Nat.{div-lt_iff_lt-mul, pow-zero, pow-succ', mul_comm, div-add-mod}
use native.Mathlib.Numerals.{add-one, sub-one}
use native.Mathlib.Omega.{arith}
use lib.ListN.{length, set, length-append}
use lib.Seq.{sets}
use Rattle.wire.proofs.Sets.{sets_then, sets-swap}
use Rattle.text.specs.Text.{hex_digit, digits}

-- one more element
pub length_more : (s : List ℕ) (x : ℕ) → length (s ++ (x ∷ [])) ≡ length s + 1
length_more s x = length-append s (x ∷ [])

-- without its last digit, a number below base ^ suc n is below base ^ n
pub less_one : (base n v : ℕ) → 0 < base → v < base ^ suc n → v / base < base ^ n
less_one base n v p h = (div-lt_iff_lt-mul p).1 (subst (λ (k : ℕ). v < k) (pow-succ' base n ∙ mul_comm base (base ^ n)) h)

-- the number that digits hold, read from the first on, behind those that hold `high`
unfoldable pub value_from : ℕ → (ℕ → ℕ) → ℕ → List ℕ → ℕ
value_from base worth high [] = high
value_from base worth high (d ∷ ds) = value_from base worth (base * high + worth d) ds

module _ (base : ℕ) where
  pub length_digits : (n v : ℕ) → length (digits base n v) ≡ n
  unfolding digits
  length_digits zero v = refl
  length_digits (suc n) v =
      length_more (digits base n (v / base)) (hex_digit (v % base)) ∙ ap (λ (k : ℕ). k + 1) (length_digits n (v / base)) ∙ add-one n

  -- ---- writing

  -- the last digit, and then those before it
  pub sets_digits : (l : List ℕ) (at n v : ℕ) → 0 < n →
      sets (set l (at + (n - 1)) (hex_digit (v % base))) at (digits base (n - 1) (v / base)) ≡ sets l at (digits base n v)
  unfolding digits
  sets_digits l at zero v h = absurd (omega arith)
  sets_digits l at (suc n) v h =
      let front : List ℕ = digits base n (v / base) in
      let last : List ℕ = hex_digit (v % base) ∷ [] in
      ap (λ (k : ℕ). sets (sets l (at + k) last) at (digits base k (v / base))) (sub-one (suc n))
      ∙ sym (sets-swap l front last at (at + n) (omega (arith, length_digits n (v / base))))
      ∙ sets_then l front last at (at + n) (ap (λ (k : ℕ). at + k) (length_digits n (v / base)))

  -- no digit
  pub sets_none : (l : List ℕ) (at n v : ℕ) → n ≡ 0 → sets l at (digits base n v) ≡ l
  unfolding digits
  sets_none l at n v none = ap (λ (k : ℕ). sets l at (digits base k v)) none

-- ---- what the digits hold

module _ (base : ℕ) (code worth : ℕ → ℕ) where
  value-more : (high : ℕ) (s : List ℕ) (d : ℕ) → value_from base worth high (s ++ (d ∷ [])) ≡ base * value_from base worth high s + worth d
  unfolding value_from
  value-more high [] d = refl
  value-more high (x ∷ xs) d = value-more (base * high + worth x) xs d

  -- the last digit, behind the others
  pub value-last : (s : List ℕ) (v : ℕ) → worth (code v) ≡ v % base → value_from base worth 0 s ≡ v / base →
      value_from base worth 0 (s ++ (code v ∷ [])) ≡ v
  value-last s v w e =
      value-more 0 s (code v)
      ∙ ap (λ (k : ℕ). base * k + worth (code v)) e
      ∙ ap (λ (k : ℕ). base * (v / base) + k) w
      ∙ div-add-mod v base

-- n digits of a number that has no more hold that number
pub value-digits : (base : ℕ) (worth : ℕ → ℕ) → ((d : ℕ) → worth (hex_digit d) ≡ d) → 0 < base → (n v : ℕ) → v < base ^ n →
    value_from base worth 0 (digits base n v) ≡ v
unfolding digits value_from
value-digits base worth w p zero v h = omega (arith, pow-zero base)
value-digits base worth w p (suc n) v h =
    value-last base (λ (k : ℕ). hex_digit (k % base)) worth (digits base n (v / base)) v (w (v % base))
    (value-digits base worth w p n (v / base) (less_one base n v p h))
