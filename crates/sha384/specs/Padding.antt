-- FIPS 180-4, sections 5.1.2 and 5.2.2: the padding of a message of whole bytes, and its blocks of 128 bytes.
-- Assumes nothing.
use Rattle.std.specs.Prelude.{ℕ, ◌-◌, ◌*◌, ◌/◌, ◌%◌, List, ◌∷◌, ◌++◌, length, take, drop, replicate}
use Rattle.sha384.specs.Words.{bytes}

-- 5.1.2: how many bytes of zeros follow the byte 0x80 after a message of n bytes. In bits, k is the least solution of
-- l + 1 + k ≡ 896 mod 1024; in bytes, with the bit 1 and its seven zeros as one byte, n + 1 + zeros ≡ 112 mod 128
unfoldable pub zeros : ℕ → ℕ
zeros n = (239 - n % 128) % 128

-- 5.1.2: what is appended to a message of n bytes: the bit 1 and zeros, and then its length in bits in 128 bits
unfoldable pub padding : ℕ → List ℕ
padding n = 0x80 ∷ replicate (zeros n) 0 ++ bytes 16 (8 * n)

-- 5.1.2: the padded message
unfoldable pub padded : List ℕ → List ℕ
padded m = m ++ padding (length m)

-- 5.2.2: block i of 1024 bits, counted from 0
unfoldable pub block : List ℕ → ℕ → List ℕ
block m i = take 128 (drop (128 * i) m)

-- 5.2.2: how many whole blocks there are
abbrev pub blocks : List ℕ → ℕ
blocks m = length m / 128
