-- A refused launch: "pages, HOB length and blocks 0, a measurement of 48 zero bytes, and both buffers zero over their full lengths".
-- And an accepted one: what it writes, and zeros behind it.
-- Assumes nothing.
use mathlib.Core.Path.{◌≡◌, refl, ap}
use mathlib.Core.Bool.{true, false}
use mathlib.Core.List.{List, ◌++◌}
use Prim.Native.Nat.{ℕ, ◌-◌}
use native.Mathlib.Nat.{sub-zero}
use lib.ListN.{length, replicate}
use Rattle.std.specs.Result.{result_err}
use Rattle.tdvf.specs.Image.{fields_of}
use Rattle.plan.specs.Plan.{plan_bytes}
use Rattle.launch.specs.Host.{Host}
use Rattle.launch.specs.Rules.{verdict}
use Rattle.launch.specs.Launch.{page_list, handoff_list, refused_answer, accepted_answer, accepted, answer, then_zeros, plan_after, handoff_after}

module _ (h : Host) (image : List ℕ) (refused : accepted h image ≡ false) where
  pub refused-answer : answer h image ≡ refused_answer (result_err (verdict h (fields_of image)))
  unfolding answer
  refused-answer = rw refused

  pub refused-plan : plan_after h image ≡ replicate h.plan 0
  unfolding plan_after then_zeros
  refused-plan = rw refused (ap (λ (n : ℕ). replicate n 0) (sub-zero h.plan))

  pub refused-handoff : handoff_after h image ≡ replicate h.handoff 0
  unfolding handoff_after then_zeros
  refused-handoff = rw refused (ap (λ (n : ℕ). replicate n 0) (sub-zero h.handoff))

  pub refused-counts : ((answer h image).pages ≡ 0) × ((answer h image).handoff ≡ 0) × ((answer h image).blocks ≡ 0) × ((answer h image).measurement ≡ replicate 48 0)
  unfolding refused_answer
  refused-counts = rw refused-answer (refl, refl, refl, refl)

module _ (h : Host) (image : List ℕ) (is : accepted h image ≡ true) where
  pub accepted-answer : answer h image ≡ accepted_answer h image
  unfolding answer
  accepted-answer = rw is

  pub accepted-plan : plan_after h image
      ≡ plan_bytes (page_list h (fields_of image)) ++ replicate (h.plan - length (plan_bytes (page_list h (fields_of image)))) 0
  unfolding plan_after then_zeros
  accepted-plan = rw is

  pub accepted-handoff : handoff_after h image
      ≡ handoff_list h (fields_of image) ++ replicate (h.handoff - length (handoff_list h (fields_of image))) 0
  unfolding handoff_after then_zeros
  accepted-handoff = rw is
