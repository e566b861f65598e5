-- The start of a measurement, and that one turn which does all its blocks answers the launch's measurement. Assumes nothing.
use mathlib.Core.Path.{◌≡◌, refl, sym, ap, ap₂, ◌∙◌}
use mathlib.Core.Bool.{true, false}
use mathlib.Core.Logic.{◌⊎◌, inl, inr}
use mathlib.Core.List.{List, []}
use Prim.Native.Nat.{ℕ, ◌+◌, ◌-◌, ◌≤◌}
use native.Mathlib.Nat.{sub-zero}
use native.Mathlib.Omega.{arith}
use lib.ListN.{length, replicate, length-append, length-replicate}
use Rattle.sha384.specs.Constants.{H⁰}
use Rattle.sha384.specs.Hash.{left384}
use Rattle.std.specs.Prelude.{Option, None, Some, sum}
use Rattle.verdict.specs.declared.Refusal.{Refusal}
use Rattle.verdict.proofs.Rules.{either, some-none}
use Rattle.tdvf.specs.Image.{fields_of}
use Rattle.plan.specs.declared.Page.{Page}
use Rattle.plan.specs.Plan.{plan_bytes}
use Rattle.measure.specs.declared.Progress.{Progress}
use Rattle.measure.specs.declared.Turned.{Turned}
use Rattle.measure.specs.Stream.{block_count, folded}
use Rattle.measure.specs.Turn.{next_block, halted, turned}
use Rattle.measure.specs.Turns.{after_turns, lent_all}
use Rattle.measure.proofs.Launch.{turns-digest}
use Rattle.measure.proofs.Quotas.{turned-refused}
use Rattle.measure.proofs.Cuts.{Ready, cut-finished}
use Rattle.launch.specs.declared.Answer.{Answer}
use Rattle.launch.specs.Host.{Host}
use Rattle.launch.specs.Launch.{page_list, handoff_list, stream_of, accepted_answer, accepted, answer, plan_after}
use Rattle.launch.specs.Begin.{unmeasured, first_progress, started_with, begun}
use Rattle.launch.specs.Demands.{Accepts}
use Rattle.launch.proofs.Accepted.{accepted-keeps}
use Rattle.launch.proofs.Filled.{plan-long, pages-sized-all, pages-volume}
use Rattle.launch.proofs.Refused as refused
use Rattle.launch.proofs.Demands.{accepts-accepted}

module _ (h : Host) (image : List ℕ) where
  -- the plan's buffer keeps its length
  pub plan-length : length (plan_after h image) ≡ h.plan
  plan-length = step (either (accepted h image))
    where
      step : (accepted h image ≡ true) ⊎ (accepted h image ≡ false) → length (plan_after h image) ≡ h.plan
      step (inl e) =
          let bytes : List ℕ = plan_bytes (page_list h (fields_of image)) in
          ap length (refused.accepted-plan h image e)
          ∙ length-append bytes (replicate (h.plan - length bytes) 0)
          ∙ omega (arith, length-replicate {A = ℕ} (h.plan - length bytes) 0, plan-long h (fields_of image) (accepted-keeps h image e))
      step (inr e) = ap length (refused.refused-plan h image e) ∙ length-replicate h.plan 0

  -- ---- the first state

  abbrev first : Progress
  first = (begun h image).progress

  pub first-is : first ≡ first_progress (unmeasured (answer h image)) (length image) h.plan
  unfolding begun started_with
  first-is = refl

  pub first-refusal : first.refusal ≡ (answer h image).refusal
  unfolding begun started_with first_progress unmeasured
  first-refusal = refl

  pub first-total : first.total ≡ (answer h image).blocks + 1
  unfolding begun started_with first_progress unmeasured
  first-total = refl

  pub first_done : first.done ≡ 0
  unfolding begun started_with first_progress
  first_done = refl

  first-hash : first.hash ≡ H⁰
  unfolding begun started_with first_progress
  first-hash = refl

  -- ---- an accepted launch

  module _ (a : Accepts h image) where
    pub ready : Ready image (plan_after h image) first
    unfolding begun started_with first_progress
    ready = record { none = first-refusal ∙ a; long = refl; room = plan-length }

    -- all blocks leave the measurement
    all_blocks : left384 (folded (next_block image (plan_after h image) ((answer h image).blocks + 1)) H⁰ 0 ((answer h image).blocks + 1)) ≡ (answer h image).measurement
    unfolding accepted_answer stream_of
    all_blocks =
        let is = (accepts-accepted h image).0 a in
        let f = fields_of image in
        let kept = accepted-keeps h image is in
        let ps : List Page = page_list h f in
        let rest : List ℕ = replicate (h.plan - length (plan_bytes ps)) 0 in
        let same = refused.accepted-answer h image is in
        let blocks : (answer h image).blocks ≡ block_count ps = ap (λ (r : Answer). r.blocks) same in
        ap₂ (λ (p : List ℕ) (n : ℕ). left384 (folded (next_block image p (n + 1)) H⁰ 0 (n + 1))) (refused.accepted-plan h image is) blocks
        ∙ turns-digest ps rest (pages-sized-all h f kept) (pages-volume h f kept) image (handoff_list h f)
        ∙ sym (ap (λ (r : Answer). r.measurement) same)

    -- and so do turns that come to the end
    pub turns-finish : (quotas : List ℕ) (q : ℕ) → (q ≡ 0 → ⊥) → (answer h image).blocks + 1 ≤ sum quotas + q
        → (turned (after_turns first (lent_all image (plan_after h image) quotas)) image (plan_after h image) q).measurement ≡ (answer h image).measurement
    unfolding begun started_with first_progress unmeasured
    turns-finish quotas q some enough =
        let n : ℕ = (answer h image).blocks + 1 in
        cut-finished image (plan_after h image) first ready (omega arith) quotas q some (omega arith)
        ∙ ap (λ (k : ℕ). left384 (folded (next_block image (plan_after h image) n) H⁰ 0 k)) (sub-zero n)
        ∙ all_blocks

  -- ---- one turn of all blocks, of any launch

  pub one-turn : (turned first image (plan_after h image) first.total).measurement ≡ (answer h image).measurement
  unfolding halted after_turns lent_all
  one-turn = step (answer h image).refusal refl
    where
      refuses : (r : Refusal) → (answer h image).refusal ≡ Some r → (accepted h image ≡ true) ⊎ (accepted h image ≡ false)
          → replicate 48 0 ≡ (answer h image).measurement
      refuses r n (inl e) = absurd (some-none (sym n ∙ (accepts-accepted h image).1 e))
      refuses r n (inr e) = sym (refused.refused-counts h image e).3

      step : (r : Option Refusal) → (answer h image).refusal ≡ r → (turned first image (plan_after h image) first.total).measurement ≡ (answer h image).measurement
      step None a = turns-finish a [] first.total (λ z. omega (arith, first-total)) (omega (arith, first-total))
      step (Some r) n =
          ap (λ (t : Turned). t.measurement) (turned-refused first image (plan_after h image) first.total r (first-refusal ∙ n))
          ∙ refuses r n (either (accepted h image))
