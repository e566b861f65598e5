-- Turns that are all lent the same: in any cut into quotas they are one run. Assumes nothing.
use Rattle.std.proofs.Common.{◌≡◌, ℕ, ◌+◌, ◌-◌, ◌<◌, ◌≤◌, min, false, List, [], ◌∷◌, length, replicate, ap, ◌∙◌, add_assoc, arith}
use native.Mathlib.Decide.{ℕ_discrete}
use Rattle.sha384.specs.Hash.{left384}
use Rattle.std.specs.Prelude.{None, sum}
use Rattle.std.proofs.lemmas.List.Sums.{sum_by-cons}
use Rattle.measure.specs.declared.Progress.{Progress}
use Rattle.measure.specs.declared.Turned.{Turned}
use Rattle.measure.specs.Stream.{folded}
use Rattle.measure.specs.Turn.{next_block, blocks_in, advanced, answered, halted, other_lengths, turned}
use Rattle.measure.specs.Turns.{after_turns, lent_all}
use Rattle.measure.proofs.Folded.{folded-add}
use Rattle.measure.proofs.Quotas.{lengths-same, shown-finished, shown-unfinished, turned-quota, turned_on}
use Rattle.measure.proofs.Held.{ran, ran-none, turned-ran}

-- a state that is not refused, and what is lent has the lengths of the start
pub record Ready (image plan : List ℕ) (s : Progress) : Type 0 where
  pub none : s.refusal ≡ None
  pub long : length image ≡ s.image
  pub room : length plan ≡ s.plan

module _ (image plan : List ℕ) where
  ready-ran : (s : Progress) (n : ℕ) → Ready image plan s → Ready image plan (ran s image plan n)
  unfolding ran
  ready-ran s n r = record { none = r.none; long = r.long; room = r.room }

  ran-ran : (s : Progress) (a b : ℕ) → ran (ran s image plan a) image plan b ≡ ran s image plan (a + b)
  unfolding ran
  ran-ran s a b = rw (folded-add (next_block image plan s.total) s.hash s.done a b, add_assoc s.done a b)

  same : (s : Progress) → Ready image plan s → other_lengths s (length image) (length plan) ≡ false
  same s r = lengths-same s (length image) (length plan) r.long r.room

  -- ---- one turn

  pub turn-blocks : (s : Progress) (q : ℕ) → Ready image plan s → (turned s image plan q).blocks ≡ min q (s.total - s.done)
  unfolding answered halted blocks_in
  turn-blocks s q r = by_quota (ℕ_discrete q 0)
    where
      by_quota : Dec (q ≡ 0) → (turned s image plan q).blocks ≡ min q (s.total - s.done)
      by_quota (yes e) = ap (λ (t : Turned). t.blocks) (turned-quota s image plan q r.none e) ∙ omega arith
      by_quota (no h) = ap (λ (t : Turned). t.blocks) (turned_on s image plan q r.none h (same s r))

  pub turn_is : (s : Progress) (q : ℕ) → Ready image plan s → (q ≡ 0 → ⊥)
      → turned s image plan q ≡ answered (ran s image plan (min q (s.total - s.done))) (min q (s.total - s.done))
  unfolding advanced blocks_in ran
  turn_is s q r h = turned_on s image plan q r.none h (same s r)

  -- ---- any turns

  pub cut : (s : Progress) → Ready image plan s → (qs : List ℕ) → after_turns s (lent_all image plan qs) ≡ ran s image plan (min (sum qs) (s.total - s.done))
  unfolding after_turns lent_all ran
  cut s r [] =
      let none : 0 ≡ min 0 (s.total - s.done) = omega arith in
      ran-none s image plan ∙ ap (ran s image plan) none
  cut s r (q ∷ qs) =
      let m : ℕ = min q (s.total - s.done) in
      let n : ℕ = min (sum qs) (s.total - (s.done + m)) in
      let both : m + n ≡ min (sum (q ∷ qs)) (s.total - s.done) = omega (arith, sum_by-cons (λ (k : ℕ). k) q qs) in
      ap (λ (t : Progress). after_turns t (lent_all image plan qs)) (turned-ran s image plan q ∙ ap (ran s image plan) (turn-blocks s q r))
      ∙ cut (ran s image plan m) (ready-ran s m r) qs
      ∙ ran-ran s m n
      ∙ ap (ran s image plan) both

  -- THE THEOREM: the turn behind them
  module _ (s : Progress) (r : Ready image plan s) (begun : s.done ≤ s.total) (qs : List ℕ) (q : ℕ) (some : q ≡ 0 → ⊥) where
    abbrev state : Progress
    state = after_turns s (lent_all image plan qs)

    abbrev before : ℕ
    before = min (sum qs) (s.total - s.done)

    pub cut-done : state.done ≡ s.done + before
    unfolding ran
    cut-done = ap (λ (t : Progress). t.done) (cut s r qs)

    pub cut-turn : turned state image plan q
        ≡ answered (ran s image plan (before + min q (s.total - (s.done + before)))) (min q (s.total - (s.done + before)))
    unfolding ran
    cut-turn =
        let b : ℕ = min q (s.total - (s.done + before)) in
        ap (λ (t : Progress). turned t image plan q) (cut s r qs)
        ∙ turn_is (ran s image plan before) q (ready-ran s before r) some
        ∙ ap (λ (t : Progress). answered t b) (ran-ran s before b)

    -- it answers the digest exactly where it comes to the end
    pub cut-finished : s.total ≤ s.done + sum qs + q
        → (turned state image plan q).measurement ≡ left384 (folded (next_block image plan s.total) s.hash s.done (s.total - s.done))
    unfolding answered ran
    cut-finished h =
        let n : ℕ = before + min q (s.total - (s.done + before)) in
        let all : n ≡ s.total - s.done = omega arith in
        ap (λ (t : Turned). t.measurement) cut-turn
        ∙ shown-finished (ran s image plan n) (omega arith)
        ∙ ap (λ (k : ℕ). left384 (folded (next_block image plan s.total) s.hash s.done k)) all

    pub cut-unfinished : s.done + sum qs + q < s.total → (turned state image plan q).measurement ≡ replicate 48 0
    unfolding answered ran
    cut-unfinished h =
        let n : ℕ = before + min q (s.total - (s.done + before)) in
        ap (λ (t : Turned). t.measurement) cut-turn ∙ shown-unfinished (ran s image plan n) (omega arith)
