-- FIPS 180-4, sections 2.2.2, 3.1, 3.2 and 4.1.3: the operations and functions on words of w = 64 bits, which are numbers below 2 ^ 64.
-- Assumes nothing.
use Rattle.std.specs.Prelude.{ℕ, zero, suc, ◌+◌, ◌-◌, ◌*◌, ◌/◌, ◌%◌, ◌^◌, List, [], ◌∷◌, ◌++◌, bit_and, bit_or, bit_xor, slice_index}

infixl 65 ◌⊞◌
-- 2.2.2, 3.2 (2): addition modulo 2 ^ 64, written + there
abbrev pub ◌⊞◌ : ℕ → ℕ → ℕ
x ⊞ y = (x + y) % 2 ^ 64

-- 2.2.2: the complement of a word
abbrev pub complement : ℕ → ℕ
complement x = 2 ^ 64 - 1 - x

-- 3.2 (3): the right shift, SHR, by n
abbrev pub shr : ℕ → ℕ → ℕ
shr n x = x / 2 ^ n

-- 2.2.2: the left shift, whose high bits are discarded
abbrev pub shl : ℕ → ℕ → ℕ
shl n x = (x * 2 ^ n) % 2 ^ 64

-- 3.2 (4): the circular right shift, ROTR, by n
abbrev pub rotr : ℕ → ℕ → ℕ
rotr n x = bit_or (shr n x) (shl (64 - n) x)

-- 4.1.3, (4.8)
abbrev pub Ch : ℕ → ℕ → ℕ → ℕ
Ch x y z = bit_xor (bit_and x y) (bit_and (complement x) z)

-- 4.1.3, (4.9)
abbrev pub Maj : ℕ → ℕ → ℕ → ℕ
Maj x y z = bit_xor (bit_xor (bit_and x y) (bit_and x z)) (bit_and y z)

-- 4.1.3, (4.10)
abbrev pub Σ₀ : ℕ → ℕ
Σ₀ x = bit_xor (bit_xor (rotr 28 x) (rotr 34 x)) (rotr 39 x)

-- 4.1.3, (4.11)
abbrev pub Σ₁ : ℕ → ℕ
Σ₁ x = bit_xor (bit_xor (rotr 14 x) (rotr 18 x)) (rotr 41 x)

-- 4.1.3, (4.12)
abbrev pub σ₀ : ℕ → ℕ
σ₀ x = bit_xor (bit_xor (rotr 1 x) (rotr 8 x)) (shr 7 x)

-- 4.1.3, (4.13)
abbrev pub σ₁ : ℕ → ℕ
σ₁ x = bit_xor (bit_xor (rotr 19 x) (rotr 61 x)) (shr 6 x)

-- 3.1 (3): the word in the eight bytes at `at`, the most significant byte first; a byte past the end counts as 0
unfoldable pub word_at : List ℕ → ℕ → ℕ
word_at s at =
    slice_index s at * 2 ^ 56 + slice_index s (at + 1) * 2 ^ 48 + slice_index s (at + 2) * 2 ^ 40 + slice_index s (at + 3) * 2 ^ 32
    + slice_index s (at + 4) * 2 ^ 24 + slice_index s (at + 5) * 2 ^ 16 + slice_index s (at + 6) * 2 ^ 8 + slice_index s (at + 7)

-- 3.1 (3): the n bytes of a number, the most significant byte first
unfoldable pub bytes : ℕ → ℕ → List ℕ
bytes zero v = []
bytes (suc n) v = bytes n (v / 256) ++ (v % 256 ∷ [])
