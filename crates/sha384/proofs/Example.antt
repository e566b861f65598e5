-- The definition computed: FIPS 180-4's own example of one block, the message "abc". The checker runs the whole hash.
-- Assumes nothing.
use Rattle.std.proofs.Common.{◌≡◌, ℕ, List, [], ◌∷◌, refl}
use Rattle.sha384.specs.Words.{word_at, bytes}
use Rattle.sha384.specs.Constants.{K, H⁰}
use Rattle.sha384.specs.Padding.{zeros, padding, padded, block}
use Rattle.sha384.specs.Hash.{later_word, next_word, schedule, round, rounds, added, compressed, after, left384, sha384}

pub abc : List ℕ
abc = 0x61 ∷ 0x62 ∷ 0x63 ∷ []

pub digest : List ℕ
digest =
    0xcb ∷ 0x00 ∷ 0x75 ∷ 0x3f ∷ 0x45 ∷ 0xa3 ∷ 0x5e ∷ 0x8b ∷ 0xb5 ∷ 0xa0 ∷ 0x3d ∷ 0x69 ∷
    0x9a ∷ 0xc6 ∷ 0x50 ∷ 0x07 ∷ 0x27 ∷ 0x2c ∷ 0x32 ∷ 0xab ∷ 0x0e ∷ 0xde ∷ 0xd1 ∷ 0x63 ∷
    0x1a ∷ 0x8b ∷ 0x60 ∷ 0x5a ∷ 0x43 ∷ 0xff ∷ 0x5b ∷ 0xed ∷ 0x80 ∷ 0x86 ∷ 0x07 ∷ 0x2b ∷
    0xa1 ∷ 0xe7 ∷ 0xcc ∷ 0x23 ∷ 0x58 ∷ 0xba ∷ 0xec ∷ 0xa1 ∷ 0x34 ∷ 0xc8 ∷ 0x25 ∷ 0xa7 ∷ []

pub abc-is : sha384 abc ≡ digest
unfolding abc digest word_at bytes K H⁰ zeros padding padded block later_word next_word schedule round rounds added compressed after left384 sha384
abc-is = refl
