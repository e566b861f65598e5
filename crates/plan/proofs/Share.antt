-- Where a page's data comes from: by the section's type, and that its numbers fit the record's fields.
-- Assumes nothing.
use mathlib.Core.Path.{◌≡◌, refl}
use mathlib.Core.Bool.{true, false}
use Prim.Native.Nat.{ℕ, zero, suc, ◌+◌, ◌*◌, ◌≤◌, ◌<◌}
use native.Mathlib.Omega.{arith}
use mathlib.Core.Logic.{◌⊎◌, inl, inr}
use lib.Dec.{eqb}
use borrow.Author.Tests.{eq-eqb, ne_eqb, eqb-true, eqb-false}
use Rattle.verdict.proofs.Rules.{either}
use Rattle.tdvf.specs.declared.Section.{Section}
use Rattle.plan.specs.declared.Source.{Source}
use Rattle.plan.specs.Plan.{source_of, data_length, data_offset}

-- ---- by the section's type

module _ (handoff : ℕ) (s : Section) where
  at-volume : (n : ℕ) → s.sort ≡ n → n < 2 → source_of handoff s ≡ record { start = s.offset; amount = s.raw }
  unfolding source_of
  at-volume zero e h = rw e
  at-volume (suc zero) e h = rw e
  at-volume (suc (suc t)) e h = absurd (omega arith)

  pub source-volume : s.sort < 2 → source_of handoff s ≡ record { start = s.offset; amount = s.raw }
  source-volume h = at-volume s.sort refl h

  pub source-list : s.sort ≡ 2 → source_of handoff s ≡ record { start = 0; amount = handoff }
  unfolding source_of
  source-list e = rw e

  at-end : (n most : ℕ) → s.sort ≡ n → s.offset + s.raw ≤ most → handoff ≤ most → (source_of handoff s).start + (source_of handoff s).amount ≤ most
  unfolding source_of
  at-end zero most e own list = rw e own
  at-end (suc zero) most e own list = rw e own
  at-end (suc (suc zero)) most e own list = rw e (omega arith)
  at-end (suc (suc (suc t))) most e own list = rw e (omega arith)

  -- the data ends where the section's or the list's does
  pub source-end : (most : ℕ) → s.offset + s.raw ≤ most → handoff ≤ most → (source_of handoff s).start + (source_of handoff s).amount ≤ most
  source-end most own list = at-end s.sort most refl own list

-- ---- a page's share

module _ (d : Source) (k : ℕ) where
  pub length_most : data_length d k ≤ 4096
  unfolding data_length
  length_most = omega arith

  -- a page that has data starts before the source's end
  pub length_some : (data_length d k ≡ 0 → ⊥) → 4096 * k < d.amount
  unfolding data_length
  length_some h = lt (λ e. h (omega arith))
    where
      lt : (d.amount ≤ 4096 * k → ⊥) → 4096 * k < d.amount
      lt n = omega (arith, n)

  pub offset-none : data_length d k ≡ 0 → data_offset d k ≡ 0
  unfolding data_offset
  offset-none e = rw (eq-eqb (data_length d k) 0 e)

  pub offset-some : (data_length d k ≡ 0 → ⊥) → data_offset d k ≡ d.start + 4096 * k
  unfolding data_offset
  offset-some h = rw (ne_eqb (data_length d k) 0 h)

  pub offset-below : (most : ℕ) → 0 < most → d.start + d.amount ≤ most → data_offset d k < most
  offset-below most p h = step (either (eqb (data_length d k) 0))
    where
      step : (eqb (data_length d k) 0 ≡ true) ⊎ (eqb (data_length d k) 0 ≡ false) → data_offset d k < most
      step (inl e) = omega (arith, offset-none (eqb-true (data_length d k) 0 e))
      step (inr e) =
          let some : data_length d k ≡ 0 → ⊥ = eqb-false (data_length d k) 0 e in omega (arith, offset-some some, length_some some)
