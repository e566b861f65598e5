-- The launch whole, as the code has it: both buffers cleared, then the checks, then a refusal or the writers. Assumes nothing.
use mathlib.Core.Path.{◌≡◌, sym, ap, ap₂, ◌∙◌}
use mathlib.Core.Bool.{true, false}
use mathlib.Core.List.{List}
use Prim.Native.Nat.{ℕ}
use Rattle.std.specs.Prelude.{Result, Ok, Err}
use Rattle.std.specs.Result.{result_err}
use lib.ListN.{length, replicate, length-replicate}
use lib.Seq.{sets}
use Rattle.wire.proofs.Sets.{sets-replicate}
use Rattle.verdict.specs.declared.Refusal.{Refusal}
use Rattle.verdict.specs.Rules.{Verdict}
use Rattle.verdict.proofs.Rules.{and-missed}
use Rattle.tdvf.specs.Image.{fields_of}
use Rattle.plan.specs.Plan.{plan_bytes}
use Rattle.launch.specs.declared.Answer.{Answer}
use Rattle.launch.specs.declared.Layout.{Layout}
use Rattle.launch.specs.Host.{Host, host_with}
use Rattle.launch.specs.Rules.{handoff_length, verdict, layout_of, checked}
use Rattle.launch.specs.Launch.{page_list, handoff_list, stream_of, accepted_answer, refused_answer, accepted, answer, plan_after, handoff_after}
use Rattle.launch.proofs.Keeps.{keeps}
use Rattle.launch.proofs.Filled.{lays, plan-long, list-long}
use Rattle.launch.proofs.Refused as refused

-- ---- what the checks' answer tells of the launch

pub record Refuses (h : Host) (image : List ℕ) (r : Refusal) : Type 0 where
  pub not : accepted h image ≡ false
  pub is : verdict h (fields_of image) ≡ Err r

pub refuses : (h : Host) (image : List ℕ) (r : Refusal) → checked h (fields_of image) ≡ Err r → Refuses h image r
unfolding checked accepted
refuses h image r e =
    let is = and-missed (verdict h (fields_of image)) (layout_of h (fields_of image)) r e in record { not = rw is; is = is }

pub accepts : (h : Host) (image : List ℕ) → verdict h (fields_of image) ≡ Ok tt → accepted h image ≡ true
unfolding accepted
accepts h image e = rw e

-- ---- the ways out

module _ (m : List ℕ) (w : ℕ) (image plan handoff p₁ h₁ : List ℕ) (cleared : p₁ ≡ replicate (length plan) 0) (cleared₂ : h₁ ≡ replicate (length handoff) 0)
    (c : Result Layout Refusal) (e : c ≡ checked (host_with m w (length p₁) (length h₁)) (fields_of image)) where
  abbrev host : Host
  host = host_with m w (length plan) (length handoff)

  same : c ≡ checked host (fields_of image)
  same =
      e ∙ ap₂ (λ (p q : ℕ). checked (host_with m w p q) (fields_of image))
      (ap length cleared ∙ length-replicate (length plan) 0) (ap length cleared₂ ∙ length-replicate (length handoff) 0)

  -- a refusal: the buffers stay as they were cleared
  pub refused-whole : (r : Refusal) → c ≡ Err r
      → (refused_answer (result_err c) ≡ answer host image) × ((p₁ ≡ plan_after host image) × (h₁ ≡ handoff_after host image))
  refused-whole r k =
      let t = refuses host image r (sym same ∙ k) in (
        ap (λ (d : Result Layout Refusal). refused_answer (result_err d)) k
            ∙ ap (λ (v : Verdict). refused_answer (result_err v)) (sym t.is) ∙ sym (refused.refused-answer host image t.not),
        (cleared ∙ sym (refused.refused-plan host image t.not), cleared₂ ∙ sym (refused.refused-handoff host image t.not)),
      )

  -- acceptance: the writers' bytes, and the zeros behind them
  pub accepted-whole : (l : Layout) → c ≡ Ok l → (r : Answer) (p₂ h₂ : List ℕ)
      → r ≡ accepted_answer (host_with m 0 0 0) image
      → p₂ ≡ sets p₁ 0 (plan_bytes (page_list (host_with m 0 0 0) (fields_of image)))
      → h₂ ≡ sets h₁ 0 (handoff_list (host_with m 0 0 0) (fields_of image))
      → (r ≡ answer host image) × ((p₂ ≡ plan_after host image) × (h₂ ≡ handoff_after host image))
  unfolding accepted_answer stream_of handoff_list handoff_length page_list
  accepted-whole l k r p₂ h₂ answers plans lists =
      let f = fields_of image in
      let none = (lays host f l (sym same ∙ k)).none in
      let kept = keeps host f none in
      let is = accepts host image none in (
        answers ∙ sym (refused.accepted-answer host image is),
        (
          plans ∙ ap (λ (b : List ℕ). sets b 0 (plan_bytes (page_list host f))) cleared
              ∙ sets-replicate (length plan) 0 (plan_bytes (page_list host f)) (plan-long host f kept) ∙ sym (refused.accepted-plan host image is),
          lists ∙ ap (λ (b : List ℕ). sets b 0 (handoff_list host f)) cleared₂
              ∙ sets-replicate (length handoff) 0 (handoff_list host f) (list-long host f kept) ∙ sym (refused.accepted-handoff host image is),
        ),
      )
