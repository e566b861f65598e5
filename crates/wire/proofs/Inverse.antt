-- Writing the bytes of a number, `le`, and reading a number, `number_at`, undo each other.
-- Assumes nothing.
use mathlib.Core.Path.{◌≡◌, refl, sym, ap, ap₂, ◌∙◌}
use Prim.Native.Nat.{ℕ, zero, suc, ◌+◌, ◌*◌, ◌/◌, ◌%◌, ◌^◌, ◌≤◌, ◌<◌}
use native.Mathlib.Nat.{mod-eq_of_lt, mod-one, pow-suc, add-zero, add-mul-mod_self_left, add-mul-div_left, div-eq_of_lt, one-le-pow}
use native.Mathlib.Omega.{arith}
use mathlib.Core.List.{List, [], ◌∷◌, ◌++◌}
use lib.Arith.{mod-mul}
use lib.Dec.{lit<}
use lib.ListN.{length, get_or, take, drop}
use lib.Seq.{sets, drop-cons}
use Rattle.wire.specs.Number.{Bytes, le, number_at}
use Rattle.wire.proofs.Number.{number_at-left, number_at-right, number_at-inside}
use Rattle.wire.proofs.Sets.{across}
use Rattle.wire.proofs.Digits.{length-le}

-- ---- reading what was written

pub number_at-le : (n v : ℕ) → number_at n (le n v) 0 ≡ v % 256 ^ n
unfolding le number_at
number_at-le zero v = sym (mod-one v)
number_at-le (suc n) v =
    ap (λ (r : ℕ). v % 256 + 256 * r) (number_at-right n (v % 256 ∷ []) (le n (v / 256)) 0 ∙ number_at-le n (v / 256))
    ∙ omega (arith, mod-mul v {m = 256 ^ n} {c = 256} (one-le-pow n 256 (lit< tt)) (lit< tt))
    ∙ ap (λ (p : ℕ). v % p) (sym (pow-suc 256 n))

-- the same for a number that n bytes hold whole
pub number_at-le-exact : (n v : ℕ) → v < 256 ^ n → number_at n (le n v) 0 ≡ v
number_at-le-exact n v h = number_at-le n v ∙ mod-eq_of_lt h

-- in front of what follows
pub number_at-front : (n v : ℕ) (ys : List ℕ) → v < 256 ^ n → number_at n (le n v ++ ys) 0 ≡ v
number_at-front n v ys h = number_at-left n (le n v) ys 0 (omega (arith, length-le n v)) ∙ number_at-le-exact n v h

-- in a buffer that it was written into
pub number_at-written : (n : ℕ) (l : List ℕ) (at v : ℕ) → at + n ≤ length l → v < 256 ^ n → number_at n (sets l at (le n v)) at ≡ v
number_at-written n l at v h b =
    ap (λ (k : ℕ). number_at n (sets l at (le n v)) k) (sym (add-zero at))
    ∙ number_at-inside n l (le n v) at 0 (omega (arith, length-le n v)) (omega (arith, length-le n v))
    ∙ number_at-le-exact n v b

-- numbers with the same bytes are the same
pub le-injective : (n v w : ℕ) → le n v ≡ le n w → v < 256 ^ n → w < 256 ^ n → v ≡ w
le-injective n v w e hv hw =
    sym (number_at-le-exact n v hv) ∙ ap (λ (s : List ℕ). number_at n s 0) e ∙ number_at-le-exact n w hw

-- ---- writing what was read

pub le-number_at : (n : ℕ) (s : List ℕ) (at : ℕ) → at + n ≤ length s → Bytes s → le n (number_at n s at) ≡ take n (drop at s)
unfolding le number_at
le-number_at zero s at h b = refl
le-number_at (suc n) s at h b =
    let r : ℕ = number_at n s (suc at) in
    ap₂ (λ (a q : ℕ). a ∷ le n q)
    (add-mul-mod_self_left (get_or s at 0) 256 r ∙ mod-eq_of_lt (b at))
    (add-mul-div_left (get_or s at 0) r (lit< tt) ∙ omega (arith, div-eq_of_lt (b at)))
    ∙ ap (λ (t : List ℕ). get_or s at 0 ∷ t) (le-number_at n s (suc at) (omega (arith, across at n)) b)
    ∙ ap (λ (t : List ℕ). take (suc n) t) (sym (drop-cons s at 0 (omega arith)))
