-- Bytes in hexadecimal digits, one behind the other: how many digits they have, and writing one byte after another. Assumes nothing.
use mathlib.Core.Path.{◌≡◌, refl, sym, ap, ◌∙◌}
use mathlib.Core.List.{List, [], ◌∷◌, ◌++◌}
use Prim.Native.Nat.{ℕ, ◌+◌, ◌*◌, ◌<◌}
use native.Mathlib.Numerals.{add-one}
use native.Mathlib.Omega.{arith}
use lib.ListN.{length, get_or, drop, length-append, drop_of_length-le}
use lib.Seq.{sets, drop-cons}
use Rattle.wire.proofs.Sets.{sets_then}
use Rattle.text.specs.Text.{hexadecimal, bytes_text}
use Rattle.text.proofs.Digits.{length_digits}

-- ---- bytes

pub length_bytes : (m : List ℕ) → length (bytes_text m) ≡ 2 * length m
unfolding bytes_text
length_bytes [] = refl
length_bytes (b ∷ bs) =
    omega (arith, length-append (hexadecimal 2 b) (bytes_text bs), length_digits 16 2 b, length_bytes bs)

-- a byte, and then those behind it
pub sets_bytes : (l m : List ℕ) (i : ℕ) → i < length m →
    sets (sets l (2 * i) (hexadecimal 2 (get_or m i 0))) (2 * (i + 1)) (bytes_text (drop (i + 1) m)) ≡ sets l (2 * i) (bytes_text (drop i m))
unfolding bytes_text
sets_bytes l m i h =
    let b : ℕ = get_or m i 0 in
    sets_then l (hexadecimal 2 b) (bytes_text (drop (i + 1) m)) (2 * i) (2 * (i + 1)) (omega (arith, length_digits 16 2 b))
    ∙ ap (λ (k : ℕ). sets l (2 * i) (hexadecimal 2 b ++ bytes_text (drop k m))) (add-one i)
    ∙ ap (λ (s : List ℕ). sets l (2 * i) (bytes_text s)) (sym (drop-cons m i 0 h))

-- no byte
pub bytes_none : (l m : List ℕ) (at i : ℕ) → i ≡ length m → sets l at (bytes_text (drop i m)) ≡ l
unfolding bytes_text
bytes_none l m at i all = ap (λ (s : List ℕ). sets l at (bytes_text s)) (drop_of_length-le m {i = i} (omega arith))
