-- std's number of a whole array of bytes is the number that the part of a slice holds.
-- Assumes nothing.
use mathlib.Core.Path.{◌≡◌, refl, ap, ◌∙◌}
use Prim.Native.Nat.{ℕ, ◌+◌, ◌*◌}
use native.Mathlib.Nat.{add-zero}
use native.Mathlib.Numerals.{add-one}
use native.Mathlib.Omega.{arith}
use mathlib.Core.List.{List, [], ◌∷◌}
use lib.ListN.{take, drop, get_or}
use Rattle.std.specs.Int.{w16, w32, w64, from_le_bytes}
use Rattle.wire.specs.Number.{number_at}
use Rattle.wire.proofs.Number.{number_at-add, number_at-take, number_at-drop}

-- the part alone
pub number_at-part : (n : ℕ) (s : List ℕ) (at : ℕ) → number_at n (take n (drop at s)) 0 ≡ number_at n s at
number_at-part n s at =
    number_at-take n n (drop at s) 0 (omega arith)
    ∙ number_at-drop n at s 0
    ∙ ap (λ (k : ℕ). number_at n s k) (add-zero at)

pub number-16 : (s xs : List ℕ) (at : ℕ) → xs ≡ take 2 (drop at s) → from_le_bytes w16 xs ≡ number_at 2 s at
unfolding number_at
number-16 s xs at e = omega (arith, ap (λ (r : List ℕ). number_at 2 r 0) e, number_at-part 2 s at)

pub number-32 : (s xs : List ℕ) (at : ℕ) → xs ≡ take 4 (drop at s) → from_le_bytes w32 xs ≡ number_at 4 s at
unfolding number_at
number-32 s xs at e = omega (arith, ap (λ (r : List ℕ). number_at 4 r 0) e, number_at-part 4 s at)

pub number-64 : (s xs : List ℕ) (at : ℕ) → xs ≡ take 8 (drop at s) → from_le_bytes w64 xs ≡ number_at 8 s at
unfolding number_at
number-64 s xs at e = omega (arith, ap (λ (r : List ℕ). number_at 8 r 0) e, number_at-part 8 s at)

-- and so is a number read by its halves, or byte by byte: what is wrong in such a reading is its value
pub bytes-16 : (s : List ℕ) (at : ℕ) → from_le_bytes w16 (get_or s at 0 ∷ get_or s (at + 1) 0 ∷ []) ≡ number_at 2 s at
unfolding number_at
bytes-16 s at =
    let xs : List ℕ = get_or s at 0 ∷ get_or s (at + 1) 0 ∷ [] in
    number-16 xs xs 0 refl ∙ ap (λ (k : ℕ). get_or s at 0 + 256 * (get_or s k 0 + 256 * 0)) (add-one at)

pub halves-32 : (s : List ℕ) (at low high : ℕ) → low ≡ number_at 2 s at → high ≡ number_at 2 s (at + 2) → low + high * 65536 ≡ number_at 4 s at
halves-32 s at low high l h = omega (arith, l, h, number_at-add 2 2 s at)

pub halves-64 : (s : List ℕ) (at low high : ℕ) → low ≡ number_at 4 s at → high ≡ number_at 4 s (at + 4) → low + high * 4294967296 ≡ number_at 8 s at
halves-64 s at low high l h = omega (arith, l, h, number_at-add 4 4 s at)

pub ruleset read = (number-16, number-32, number-64, bytes-16, halves-32, halves-64)
