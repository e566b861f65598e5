-- Lists of bytes, each below 256: parts of one, one joined to another, one written into another.
-- Assumes nothing.
use Prim.Native.Nat.{ℕ, zero, suc, ◌<◌}
use mathlib.Core.List.{List, [], ◌∷◌, ◌++◌}
use lib.Dec.{lit<}
use mir.Syntax.{w8}
use mir.Val.{Fits}
use lib.ListN.{get_or, set, take, drop, replicate}
use lib.Seq.{sets}
use Rattle.wire.specs.Number.{Bytes}

-- what is known of each element of a lent slice of bytes, as the needs of a function's proof have it
pub bytes-known : (s : List ℕ) → ((i : ℕ) → Fits w8 (get_or s i 0)) → Bytes s
bytes-known s h i = (h i).fits

pub bytes-nil : Bytes []
bytes-nil i = lit< tt

pub bytes-cons : (a : ℕ) (s : List ℕ) → a < 256 → Bytes s → Bytes (a ∷ s)
bytes-cons a s h b zero = h
bytes-cons a s h b (suc i) = b i

pub bytes-append : (xs ys : List ℕ) → Bytes xs → Bytes ys → Bytes (xs ++ ys)
bytes-append [] ys a b = b
bytes-append (x ∷ xs) ys a b = bytes-cons x (xs ++ ys) (a 0) (bytes-append xs ys (λ i. a (suc i)) b)

pub bytes_take : (n : ℕ) (s : List ℕ) → Bytes s → Bytes (take n s)
bytes_take zero s b = bytes-nil
bytes_take (suc n) [] b = bytes-nil
bytes_take (suc n) (x ∷ xs) b = bytes-cons x (take n xs) (b 0) (bytes_take n xs (λ i. b (suc i)))

pub bytes_drop : (n : ℕ) (s : List ℕ) → Bytes s → Bytes (drop n s)
bytes_drop zero s b = b
bytes_drop (suc n) [] b = bytes-nil
bytes_drop (suc n) (x ∷ xs) b = bytes_drop n xs (λ i. b (suc i))

pub bytes-replicate : (n a : ℕ) → a < 256 → Bytes (replicate n a)
bytes-replicate zero a h = bytes-nil
bytes-replicate (suc n) a h = bytes-cons a (replicate n a) h (bytes-replicate n a h)

pub bytes-set : (s : List ℕ) (i a : ℕ) → Bytes s → a < 256 → Bytes (set s i a)
bytes-set [] i a b h = bytes-nil
bytes-set (x ∷ xs) zero a b h = bytes-cons a xs h (λ i. b (suc i))
bytes-set (x ∷ xs) (suc i) a b h = bytes-cons x (set xs i a) (b 0) (bytes-set xs i a (λ j. b (suc j)) h)

pub bytes-sets : (s : List ℕ) (i : ℕ) (ys : List ℕ) → Bytes s → Bytes ys → Bytes (sets s i ys)
bytes-sets s i [] b y = b
bytes-sets s i (a ∷ ys) b y = bytes-sets (set s i a) (suc i) ys (bytes-set s i a b (y 0)) (λ j. y (suc j))
