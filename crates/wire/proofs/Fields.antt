-- A part of a buffer that is written field by field, each right behind the one before, as `put(&mut part[8..12], value)`.
-- Assumes nothing.
use mathlib.Core.Path.{◌≡◌, refl, sym, ap, ◌∙◌}
use Prim.Native.Nat.{ℕ, ◌+◌, ◌≤◌}
use native.Mathlib.Omega.{arith}
use mathlib.Core.List.{List, [], ◌++◌}
use borrow.Rule.Slice.PartMut.{put_mid, same_len_mid}
use lib.ListN.{length, take, drop, replicate, length-take, length-drop, length-replicate}
use Rattle.std.proofs.lemmas.List.{take_all}
use Rattle.std.proofs.lemmas.Slice.{take-put_mid}
use Rattle.wire.specs.Number.{le}
use Rattle.wire.proofs.Digits.{length-le}

-- the first `at` of the part's `size` bytes are xs
pub record Fields (part xs : List ℕ) (at size : ℕ) : Type 0 where
  pub long : length part ≡ size
  pub is : take at part ≡ xs

pub fields-none : {part : List ℕ} {size : ℕ} → length part ≡ size → Fields part [] 0 size
fields-none l = record { long = l; is = refl }

-- the next field
pub fields_more : {part xs ys zs : List ℕ} {at size : ℕ} (k : ℕ) → Fields part xs at size → at + k ≤ size → ys ≡ zs → length zs ≡ k
    → Fields (put_mid at k part ys) (xs ++ zs) (at + k) size
fields_more {part} {xs} {ys} {zs} {at} k f h e l =
    let whole : length (take k (drop at part)) ≡ k = omega (arith, length-take k (drop at part), length-drop at part, f.long) in
    record {
      long = same_len_mid at k part ys (ap length e ∙ l ∙ sym whole) ∙ f.long;
      is = take-put_mid at k part ys (at + k) (ap (λ (n : ℕ). at + n) (sym (ap length e ∙ l))) (omega (arith, f.long))
          ∙ ap (λ (r : List ℕ). r ++ ys) f.is
          ∙ ap (λ (r : List ℕ). xs ++ r) e;
    }

-- a number, of as many bytes as its part has
pub fields_number : {part xs ys : List ℕ} {at size : ℕ} (k v : ℕ) → Fields part xs at size → at + k ≤ size → ys ≡ le (length (take k (drop at part))) v
    → Fields (put_mid at k part ys) (xs ++ le k v) (at + k) size
fields_number {part} {at = at} k v f h e =
    let whole : length (take k (drop at part)) ≡ k = omega (arith, length-take k (drop at part), length-drop at part, f.long) in
    fields_more k f h (e ∙ ap (λ (n : ℕ). le n v) whole) (length-le k v)

-- zeros, as many as their part has
pub fields_zeros : {part xs ys : List ℕ} {at size : ℕ} (k : ℕ) → Fields part xs at size → at + k ≤ size
    → ys ≡ replicate (length (take k (drop at part))) 0
    → Fields (put_mid at k part ys) (xs ++ replicate k 0) (at + k) size
fields_zeros {part} {at = at} k f h e =
    let whole : length (take k (drop at part)) ≡ k = omega (arith, length-take k (drop at part), length-drop at part, f.long) in
    fields_more k f h (e ∙ ap (λ (n : ℕ). replicate n 0) whole) (length-replicate k 0)

-- all fields are the part
pub fields_all : {part xs : List ℕ} {size : ℕ} → Fields part xs size size → part ≡ xs
fields_all {part} {size = size} f = sym (take_all size part (omega (arith, f.long))) ∙ f.is
