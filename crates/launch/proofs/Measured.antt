-- The launch from all of it but the measurement: a refused one is whole, and an accepted one lacks the digest of the plan that stands in the
-- buffer. Assumes nothing.
use mathlib.Core.Path.{◌≡◌, refl, sym, ap, ap₂, ◌∙◌}
use mathlib.Core.Bool.{true, false, true≢false}
use mathlib.Core.Logic.{◌⊎◌, inl, inr}
use mathlib.Core.List.{List}
use Prim.Native.Nat.{ℕ, ◌^◌, ◌≤◌}
use native.Mathlib.Omega.{arith}
use Rattle.std.specs.Prelude.{Option, None, Some, is_some}
use Rattle.verdict.specs.declared.Refusal.{Refusal}
use Rattle.verdict.proofs.Rules.{either}
use Rattle.measure.specs.Stream.{digest_of}
use Rattle.launch.specs.declared.Answer.{Answer}
use Rattle.launch.specs.Host.{Host}
use Rattle.launch.specs.Launch.{refused_answer, accepted_answer, accepted, answer, plan_after}
use Rattle.launch.specs.Begin.{unmeasured}
use Rattle.launch.proofs.Accepted.{accepted-keeps}
use Rattle.launch.proofs.Filled.{measured-is, blocks-few}
use Rattle.launch.proofs.Refused as refused
use Rattle.launch.proofs.Demands.{accepts-accepted}

-- an answer that may hold a refusal holds none
none-held : (r : Option Refusal) → is_some r ≡ false → r ≡ None
none-held None e = refl
none-held (Some r) e = absurd (true≢false e)

none-some : (r : Option Refusal) → is_some r ≡ true → r ≡ None → ⊥
none-some None e n = absurd (true≢false (sym e))
none-some (Some r) e n = true≢false (sym e ∙ ap is_some n)

module _ (h : Host) (image : List ℕ) (laid : Answer) (is : laid ≡ unmeasured (answer h image)) where
  same : laid.refusal ≡ (answer h image).refusal
  unfolding unmeasured
  same = ap (λ (a : Answer). a.refusal) is

  pub laid-refused : is_some laid.refusal ≡ true → laid ≡ answer h image
  unfolding unmeasured refused_answer
  laid-refused e = step (either (accepted h image))
    where
      step : (accepted h image ≡ true) ⊎ (accepted h image ≡ false) → laid ≡ answer h image
      step (inl k) = absurd (none-some laid.refusal e (same ∙ (accepts-accepted h image).1 k))
      step (inr k) =
          let refuses = refused.refused-answer h image k in is ∙ ap unmeasured refuses ∙ sym refuses

  module _ (none : is_some laid.refusal ≡ false) where
    holds : accepted h image ≡ true
    holds = (accepts-accepted h image).0 (sym same ∙ none-held laid.refusal none)

    as-told : laid ≡ unmeasured (accepted_answer h image)
    as-told = is ∙ ap unmeasured (refused.accepted-answer h image holds)

    blocks-told : laid.blocks ≡ (accepted_answer h image).blocks
    unfolding unmeasured
    blocks-told = ap (λ (a : Answer). a.blocks) as-told

    pub laid-few : laid.blocks ≤ 2 ^ 32
    laid-few = omega (arith, blocks-told, blocks-few h image (accepted-keeps h image holds))

    pub laid-measured : (plan digest : List ℕ) → plan ≡ plan_after h image → digest ≡ digest_of image plan laid.blocks
        → record { refusal = laid.refusal; pages = laid.pages; handoff = laid.handoff; blocks = laid.blocks; measurement = digest } ≡ answer h image
    unfolding unmeasured
    laid-measured plan digest stands measures =
        let digests : digest ≡ (accepted_answer h image).measurement =
        measures
        ∙ ap₂ (λ (p : List ℕ) (n : ℕ). digest_of image p n) (stands ∙ refused.accepted-plan h image holds) blocks-told
        ∙ measured-is h image (accepted-keeps h image holds) _ in
        ap₂ (λ (a : Answer) (d : List ℕ). record { refusal = a.refusal; pages = a.pages; handoff = a.handoff; blocks = a.blocks; measurement = d })
        as-told digests
        ∙ sym (refused.accepted-answer h image holds)
