-- Hexadecimal digits: "0" to "9" and "a" to "f", and what they hold. Assumes nothing.
use mathlib.Core.Path.{◌≡◌, refl, sym, ap, ◌∙◌}
use mathlib.Core.Bool.{Bool, true, false}
use mathlib.Core.List.{List, [], ◌∷◌, ◌++◌}
use Prim.Native.Nat.{ℕ, suc, ◌+◌, ◌-◌, ◌/◌, ◌%◌, ◌^◌, ◌≤◌, ◌<◌}
use native.Mathlib.Omega.{arith}
use lib.Dec.{ltb, lit<}
use borrow.Author.Tests.{ltb-true, ltb-false, lt-ltb, le-ltb}
use Rattle.verdict.specs.Rules.{pick}
use Rattle.text.specs.Text.{hex_digit, digits, hexadecimal}
use Rattle.text.proofs.Digits.{value_from, value-digits}

-- ---- a digit

pub digit_low : (d : ℕ) → d < 10 → hex_digit d ≡ 48 + d
digit_low d h = rw (lt-ltb d 10 h)

pub digit-high : (d : ℕ) → 10 ≤ d → hex_digit d ≡ 87 + d
digit-high d h = rw (le-ltb d 10 h)

-- what the digit of code c counts
unfoldable pub worth : ℕ → ℕ
worth c = pick (ltb c 58) (c - 48) (c - 87)

worth-low : (c : ℕ) → c < 58 → worth c ≡ c - 48
unfolding worth
worth-low c h = rw (lt-ltb c 58 h)

worth-high : (c : ℕ) → 58 ≤ c → worth c ≡ c - 87
unfolding worth
worth-high c h = rw (le-ltb c 58 h)

worth-digit : (d : ℕ) → worth (hex_digit d) ≡ d
worth-digit d = step (ltb d 10) refl
  where
    step : (b : Bool) → ltb d 10 ≡ b → worth (hex_digit d) ≡ d
    step true e =
        let low : d < 10 = ltb-true d 10 e in
        ap worth (digit_low d low) ∙ worth-low (48 + d) (omega arith) ∙ omega arith
    step false e =
        let high : 10 ≤ d = ltb-false d 10 e in
        ap worth (digit-high d high) ∙ worth-high (87 + d) (omega arith) ∙ omega arith

-- ---- n digits

-- the last digit stands behind the others
pub hexadecimal-digits : (n v : ℕ) → hexadecimal (suc n) v ≡ hexadecimal n (v / 16) ++ (hex_digit (v % 16) ∷ [])
unfolding digits
hexadecimal-digits n v = refl

-- the number that hexadecimal digits hold
abbrev pub value : List ℕ → ℕ
value = value_from 16 worth 0

-- the digits of a number hold that number, where there are enough of them
pub hexadecimal-value : (n v : ℕ) → v < 16 ^ n → value (hexadecimal n v) ≡ v
hexadecimal-value n v h = value-digits 16 worth worth-digit (lit< tt) n v h

-- so no two addresses have the same text
pub hexadecimal-apart : (n v w : ℕ) → v < 16 ^ n → w < 16 ^ n → hexadecimal n v ≡ hexadecimal n w → v ≡ w
hexadecimal-apart n v w g h e = sym (hexadecimal-value n v g) ∙ ap value e ∙ hexadecimal-value n w h
