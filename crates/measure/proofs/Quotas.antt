-- A turn, case by case in the order in which they are tried. Assumes nothing.
use Rattle.std.proofs.Common.{◌≡◌, ℕ, ◌-◌, ◌<◌, ◌≤◌, min, true, false, List, length, replicate, ◌∙◌, ap₂, add-zero, eq-eqb, ne_eqb, le-leb}
use borrow.Author.Tests.{lt-leb}
use Rattle.sha384.specs.Hash.{left384}
use Rattle.std.specs.Prelude.{None, Some}
use Rattle.verdict.specs.declared.Refusal.{Refusal}
use Rattle.measure.specs.declared.Progress.{Progress}
use Rattle.measure.specs.declared.TurnRefusal.TheVariants.{Launch, Quota, Lengths}
use Rattle.measure.specs.Stream.{folded}
use Rattle.measure.specs.Turn.{blocks_in, advanced, is_finished, measurement_of, answered, halted, other_lengths, turned}

-- ---- the lengths

pub lengths-same : (s : Progress) (image plan : ℕ) → image ≡ s.image → plan ≡ s.plan → other_lengths s image plan ≡ false
unfolding other_lengths
lengths-same s image plan e f = rw (eq-eqb image s.image e, eq-eqb plan s.plan f)

-- ---- the measurement

pub shown-finished : (s : Progress) → s.total ≤ s.done → measurement_of s ≡ left384 s.hash
unfolding measurement_of is_finished
shown-finished s h = rw (le-leb s.total s.done h)

pub shown-unfinished : (s : Progress) → s.done < s.total → measurement_of s ≡ replicate 48 0
unfolding measurement_of is_finished
shown-unfinished s h = rw (lt-leb s.total s.done h)

-- ---- the cases

module _ (s : Progress) (image plan : List ℕ) (q : ℕ) where
  pub turned-refused : (r : Refusal) → s.refusal ≡ Some r → turned s image plan q ≡ halted s (Launch r)
  unfolding turned
  turned-refused r e = rw e

  -- where no block is done the state stays
  pub advanced-none : blocks_in s q ≡ 0 → advanced s image plan q ≡ s
  unfolding advanced folded
  advanced-none e = rw (e, add-zero s.done)

  module _ (none : s.refusal ≡ None) where
    pub turned-quota : q ≡ 0 → turned s image plan q ≡ halted s Quota
    unfolding turned
    turned-quota e = rw (none, eq-eqb q 0 e)

    pub turned-lengths : (q ≡ 0 → ⊥) → other_lengths s (length image) (length plan) ≡ true → turned s image plan q ≡ halted s Lengths
    unfolding turned
    turned-lengths h e = rw (ne_eqb q 0 h, e, none)

    pub turned_on : (q ≡ 0 → ⊥) → other_lengths s (length image) (length plan) ≡ false
        → turned s image plan q ≡ answered (advanced s image plan q) (blocks_in s q)
    unfolding turned
    turned_on h e = rw (ne_eqb q 0 h, e, none)

    module _ (some : q ≡ 0 → ⊥) (same : other_lengths s (length image) (length plan) ≡ false) where
      -- of a finished state nothing is left
      pub turned-finished : min q (s.total - s.done) ≡ 0 → turned s image plan q ≡ answered s 0
      unfolding blocks_in
      turned-finished e = turned_on some same ∙ ap₂ (λ (t : Progress) (b : ℕ). answered t b) (advanced-none e) e
