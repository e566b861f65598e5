-- Each rule of the map in plain facts: it is kept exactly where they hold. And the widths and the bounds.
-- Assumes nothing.
use mathlib.Core.Path.{◌≡◌, refl, sym, ap, ◌∙◌}
use mathlib.Core.Bool.{true, false}
use mathlib.Core.List.{List}
use mathlib.Core.Logic.{◌↔◌, ◌⊎◌, inl, inr, ⊎_elim}
use Prim.Native.Nat.{ℕ, ◌*◌, ◌%◌, ◌^◌, ◌≤◌, ◌<◌}
use native.Mathlib.Nat.{pow-le-pow_right}
use native.Mathlib.Omega.{arith}
use lib.Dec.{leb, ltb, eqb, lit<}
use lib.ListN.{length}
use Rattle.std.proofs.lemmas.Bool.{ltb-false, leb-true, eqb-true, eqb-false, not-false, le-ltb, le-leb, eq-eqb, ne_eqb, or_parts, and_parts}
use Rattle.std.specs.Prelude.{Result, Ok, Err}
use Rattle.verdict.specs.declared.Refusal.{Refusal}
use Rattle.verdict.proofs.Rules.{either}
use Rattle.memory.specs.declared.Record.{Record}
use Rattle.memory.specs.declared.Width.{Width}
use Rattle.memory.specs.declared.Width.TheVariants.{Bits48, Bits52}
use Rattle.memory.specs.Map.{record_count, end, count_broken, multiple_broken, width_allowed, bits, Widens, top, end_broken, kind_broken, order_broken}

-- ---- the count

pub record Counted (map : List ℕ) : Type 0 where
  pub low : 1 ≤ record_count map
  pub high : record_count map ≤ 64
  pub whole : length map ≡ 24 * record_count map

pub count_kept : (map : List ℕ) → (count_broken map ≡ false) ↔ Counted map
unfolding count_broken
count_kept map = (
  λ e.
      let two = or_parts _ _ e in
      let one = or_parts _ _ two.0 in
      let whole : length map % 24 ≡ 0 = eqb-true (length map % 24) 0 (not-false _ one.0) in
      let some : record_count map ≡ 0 → ⊥ = eqb-false (record_count map) 0 one.1 in
      let few : record_count map ≤ 64 = ltb-false 64 (record_count map) two.1 in
      record { low = omega arith; high = few; whole = omega arith },
  λ k.
      let whole : eqb (length map % 24) 0 ≡ true = eq-eqb (length map % 24) 0 (omega arith) in
      let some : eqb (record_count map) 0 ≡ false = ne_eqb (record_count map) 0 (λ e. omega arith) in
      let few : ltb 64 (record_count map) ≡ false = le-ltb 64 (record_count map) k.high in
      rw (whole, some, few),
)

-- ---- the rules of a record

pub record Paged (r : Record) : Type 0 where
  pub starts : r.start % 4096 ≡ 0
  pub lengths : r.length % 4096 ≡ 0
  pub some : 0 < r.length

pub multiple-kept : (r : Record) → (multiple_broken r ≡ false) ↔ Paged r
unfolding multiple_broken
multiple-kept r = (
  λ e.
      let two = or_parts _ _ e in
      let one = or_parts _ _ two.0 in
      let some : r.length ≡ 0 → ⊥ = eqb-false _ _ two.1 in
      record { starts = eqb-true _ _ (not-false _ one.0); lengths = eqb-true _ _ (not-false _ one.1); some = omega arith },
  λ k.
      let s : eqb (r.start % 4096) 0 ≡ true = eq-eqb _ _ k.starts in
      let l : eqb (r.length % 4096) 0 ≡ true = eq-eqb _ _ k.lengths in
      let n : eqb r.length 0 ≡ false = ne_eqb r.length 0 (λ e. omega arith) in
      rw (s, l, n),
)

pub end_kept : (width : ℕ) (r : Record) → (end_broken width r ≡ false) ↔ (end r ≤ top r.kind width)
unfolding end_broken
end_kept width r = (λ e. ltb-false _ _ e, λ h. le-ltb _ _ h)

pub record Kinded (r : Record) : Type 0 where
  pub low : 1 ≤ r.kind
  pub high : r.kind ≤ 3
  pub zero : r.filler ≡ 0

pub kind-kept : (r : Record) → (kind_broken r ≡ false) ↔ Kinded r
unfolding kind_broken
kind-kept r = (
  λ e.
      let two = or_parts _ _ e in
      let range = and_parts _ _ (not-false _ two.0) in
      record { low = leb-true _ _ range.0; high = leb-true _ _ range.1; zero = eqb-true _ _ (not-false _ two.1) },
  λ k.
      let l : leb 1 r.kind ≡ true = le-leb _ _ k.low in
      let h : leb r.kind 3 ≡ true = le-leb _ _ k.high in
      let z : eqb r.filler 0 ≡ true = eq-eqb _ _ k.zero in
      rw (l, h, z),
)

pub order-kept : (before : ℕ) (r : Record) → (order_broken before r ≡ false) ↔ (before ≤ r.start)
unfolding order_broken
order-kept before r = (λ e. ltb-false _ _ e, λ h. le-ltb _ _ h)

-- ---- the widths and the bounds

-- an allowed width is one of the two
pub width_is : (width : ℕ) → width_allowed width ≡ true → (width ≡ 48) ⊎ (width ≡ 52)
unfolding width_allowed
width_is width e = step (either (eqb width 48))
  where
    step : (eqb width 48 ≡ true) ⊎ (eqb width 48 ≡ false) → (width ≡ 48) ⊎ (width ≡ 52)
    step (inl h) = inl (eqb-true width 48 h)
    step (inr h) = inr (eqb-true width 52 (rw h at e))

pub bits-allowed : (w : Width) → width_allowed (bits w) ≡ true
unfolding width_allowed bits
bits-allowed Bits48 = refl
bits-allowed Bits52 = refl

-- a number of bits gives one answer
pub width-unique : (n : ℕ) (r s : Result Width Refusal) → Widens n r → Widens n s → r ≡ s
unfolding bits
width-unique n (Ok Bits48) (Ok Bits48) a b = refl
width-unique n (Ok Bits48) (Ok Bits52) a b = absurd (omega (arith, a.1, b.1))
width-unique n (Ok Bits52) (Ok Bits48) a b = absurd (omega (arith, a.1, b.1))
width-unique n (Ok Bits52) (Ok Bits52) a b = refl
width-unique n (Ok w) (Err e) a b = cc
width-unique n (Err e) (Ok w) a b = cc
width-unique n (Err e) (Err f) a b = ap Err (a.1 ∙ sym b.1)

-- no bound is above 2 ^ 52
pub top-low : (kind width : ℕ) → width_allowed width ≡ true → top kind width ≤ 2 ^ 52
unfolding top
top-low kind width e =
    pow-le-pow_right (lit< tt) {i = width} {j = 52} (⊎_elim (λ (f : width ≡ 48). omega arith) (λ (f : width ≡ 52). omega arith) (width_is width e))
