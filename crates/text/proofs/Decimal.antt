-- Decimal digits: one more digit, how many there are, and what they hold. Assumes nothing.
use mathlib.Core.Path.{◌≡◌, refl, sym, ap, ap₂, ◌∙◌}
use mathlib.Core.List.{List, [], ◌∷◌, ◌++◌}
use Prim.Native.Nat.{ℕ, zero, suc, ◌+◌, ◌-◌, ◌*◌, ◌/◌, ◌%◌, ◌^◌, ◌≤◌, ◌<◌}
use native.Mathlib.Nat.{div-lt_self, pow-zero, pow-succ', one-le-pow}
use native.Mathlib.Numerals.{add-one}
use native.Mathlib.Omega.{arith}
use lib.Dec.{lit<}
use lib.ListN.{length}
use Rattle.std.specs.Prelude.{Option, None, Some, IfNone, IfSome, unwrap_or}
use Rattle.text.specs.Text.{last_digit, within, leading, decimal, hex_digit, digits}
use Rattle.text.proofs.Hexadecimal.{digit_low}
use Rattle.text.proofs.Digits.{length_more, less_one, value_from, value-last}

-- ---- one more digit

-- a tenth is smaller
pub tenth : (v : ℕ) → 0 < v → v / 10 < v
tenth v h = div-lt_self h (lit< tt)

-- enough steps are as good as others
pub within_same : (j k v : ℕ) → v ≤ j → v ≤ k → within j v ≡ within k v
unfolding within
within_same zero zero v g h = refl
within_same zero (suc k) zero g h = refl
within_same zero (suc k) (suc v) g h = absurd (omega arith)
within_same (suc j) zero zero g h = refl
within_same (suc j) zero (suc v) g h = absurd (omega arith)
within_same (suc j) (suc k) zero g h = refl
within_same (suc j) (suc k) (suc v) g h =
    let less : suc v / 10 < suc v = tenth (suc v) (omega arith) in
    ap (λ (s : List ℕ). s ++ (last_digit (suc v) ∷ [])) (within_same j k (suc v / 10) (omega arith) (omega arith))

pub leading-none : leading 0 ≡ []
unfolding leading within
leading-none = refl

pub leading-more : (v : ℕ) → 0 < v → leading v ≡ leading (v / 10) ++ (last_digit v ∷ [])
unfolding leading within
leading-more zero h = absurd (omega arith)
leading-more (suc v) h =
    let less : suc v / 10 < suc v = tenth (suc v) (omega arith) in
    ap (λ (s : List ℕ). s ++ (last_digit (suc v) ∷ [])) (within_same v (suc v / 10) (suc v / 10) (omega arith) (omega arith))

-- ---- how many

pub length-leading-more : (v : ℕ) → 0 < v → length (leading v) ≡ length (leading (v / 10)) + 1
length-leading-more v h = ap length (leading-more v h) ∙ length_more (leading (v / 10)) (last_digit v)

pub length-decimal : (v : ℕ) → length (decimal v) ≡ length (leading (v / 10)) + 1
unfolding decimal
length-decimal v = length_more (leading (v / 10)) (last_digit v)

-- a number below 10 ^ n has at most n digits
pub length-within : (n steps v : ℕ) → v < 10 ^ n → length (within steps v) ≤ n
unfolding within
length-within n zero v h = omega arith
length-within n (suc steps) zero h = omega arith
length-within zero (suc steps) (suc v) h = absurd (omega arith)
length-within (suc n) (suc steps) (suc v) h =
    let part : suc v / 10 < 10 ^ n = less_one 10 n (suc v) (lit< tt) h in
    omega (arith, length_more (within steps (suc v / 10)) (last_digit (suc v)), length-within n steps (suc v / 10) part)

pub decimal-most : (v : ℕ) → v < 2 ^ 64 → length (decimal v) ≤ 20
unfolding leading
decimal-most v h =
    let part : v / 10 < 10 ^ 19 = less_one 10 19 v (lit< tt) (omega arith) in
    omega (arith, length-decimal v, length-within 19 (v / 10) (v / 10) part)

-- a number of 10 ^ n or more has more than n digits
length-within-least : (n steps v : ℕ) → v ≤ steps → 10 ^ n ≤ v → n < length (within steps v)
unfolding within
length-within-least n zero v g h = absurd (omega (arith, one-le-pow n 10 (lit< tt)))
length-within-least n (suc steps) zero g h = absurd (omega (arith, one-le-pow n 10 (lit< tt)))
length-within-least zero (suc steps) (suc v) g h = omega (arith, length_more (within steps (suc v / 10)) (last_digit (suc v)))
length-within-least (suc n) (suc steps) (suc v) g h =
    let less : suc v / 10 < suc v = tenth (suc v) (omega arith) in
    omega (
      arith,
      length_more (within steps (suc v / 10)) (last_digit (suc v)),
      length-within-least n steps (suc v / 10) (omega arith) (omega (arith, pow-succ' 10 n)),
    )

-- so one whose logarithm is n has n + 1
logarithm-is : (n v : ℕ) → 10 ^ n ≤ v → v < 10 * 10 ^ n → 1 + n ≡ length (decimal v)
unfolding leading
logarithm-is zero v l h = omega (arith, pow-zero 10, length-decimal v, length-within 0 (v / 10) (v / 10) (omega (arith, pow-zero 10)))
logarithm-is (suc n) v l h =
    omega (
      arith,
      length-decimal v,
      length-within (suc n) (v / 10) (v / 10) (omega (arith, pow-succ' 10 n)),
      length-within-least n (v / 10) (v / 10) (omega arith) (omega (arith, pow-succ' 10 n)),
    )

-- the logarithm, or 0 where there is none
pub count_is : (o : Option ℕ) (v : ℕ) →
    IfNone o (v ≡ 0) → IfSome o (λ n. 10 ^ n ≤ v) → IfSome o (λ n. v < 10 * 10 ^ n) → 1 + unwrap_or o 0 ≡ length (decimal v)
unfolding decimal leading within
count_is None v z l h = rw z
count_is (Some n) v z l h = logarithm-is n v l h

-- ---- as many as there are

-- the code of the last decimal digit is that of any base
same-code : (v : ℕ) → last_digit v ≡ hex_digit (v % 10)
same-code v = sym (digit_low (v % 10) (omega arith))

within-digits : (steps v : ℕ) → within steps v ≡ digits 10 (length (within steps v)) v
unfolding within digits
within-digits zero v = refl
within-digits (suc steps) zero = refl
within-digits (suc steps) (suc v) =
    let front : List ℕ = within steps (suc v / 10) in
    ap₂ (λ (s : List ℕ) (d : ℕ). s ++ (d ∷ [])) (within-digits steps (suc v / 10)) (same-code (suc v))
    ∙ ap (λ (k : ℕ). digits 10 k (suc v)) (sym (length_more front (last_digit (suc v)) ∙ add-one (length front)))

-- a number's own digits are as many of its last ones as there are
pub decimal_digits : (v : ℕ) → decimal v ≡ digits 10 (length (decimal v)) v
unfolding decimal leading digits
decimal_digits v =
    ap₂ (λ (s : List ℕ) (d : ℕ). s ++ (d ∷ [])) (within-digits (v / 10) (v / 10)) (same-code v)
    ∙ ap (λ (k : ℕ). digits 10 k v) (sym (length-decimal v ∙ add-one (length (leading (v / 10)))))

-- ---- what the digits hold

-- what the digit of code d counts
abbrev pub worth : ℕ → ℕ
worth d = d - 48

-- the number that decimal digits hold
abbrev pub value : List ℕ → ℕ
value = value_from 10 worth 0

value-within : (steps v : ℕ) → v ≤ steps → value (within steps v) ≡ v
unfolding within value_from
value-within zero v h = omega arith
value-within (suc steps) zero h = refl
value-within (suc steps) (suc v) h =
    let less : suc v / 10 < suc v = tenth (suc v) (omega arith) in
    value-last 10 last_digit worth (within steps (suc v / 10)) (suc v) (omega arith) (value-within steps (suc v / 10) (omega arith))

-- the digits of a number hold that number: no two numbers have the same text
pub decimal-value : (v : ℕ) → value (decimal v) ≡ v
unfolding decimal leading
decimal-value v = value-last 10 last_digit worth (leading (v / 10)) v (omega arith) (value-within (v / 10) (v / 10) (omega arith))

pub decimal-apart : (v w : ℕ) → decimal v ≡ decimal w → v ≡ w
decimal-apart v w e = sym (decimal-value v) ∙ ap value e ∙ decimal-value w
