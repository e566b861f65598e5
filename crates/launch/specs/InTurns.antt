-- What is promised of a launch that is measured in turns. Each statement is the whole type of one declaration of proofs/InTurns, which
-- proves it. What is promised of any turns, also of those that are lent something else, is `Held` of measure/specs/Turns.
-- Assumes nothing.
use Rattle.std.specs.Prelude.{◌≡◌, List, ℕ, ◌+◌, ◌≤◌, ◌<◌, min, replicate, None, Some, sum}
use Rattle.verdict.specs.declared.Refusal.{Refusal}
use Rattle.measure.specs.declared.Progress.{Progress}
use Rattle.measure.specs.declared.Turned.{Turned}
use Rattle.measure.specs.declared.TurnRefusal.TheVariants.{Launch}
use Rattle.measure.specs.Turn.{halted, turned}
use Rattle.measure.specs.Turns.{Lent, turn_of, after_turns, reported, lent_all}
use Rattle.launch.specs.Host.{Host}
use Rattle.launch.specs.Launch.{stream_of, answer, plan_after}
use Rattle.launch.specs.Begin.{begun}
use Rattle.launch.specs.Demands.{Accepts, ChangedOutside}

-- the first state
abbrev pub start : Host → List ℕ → Progress
start h image = (begun h image).progress

-- the state after turns that are lent the image and the plan of the start, with these quotas, and the answer of one such turn more
abbrev pub state_after : Host → List ℕ → List ℕ → Progress
state_after h image quotas = after_turns (start h image) (lent_all image (plan_after h image) quotas)

abbrev pub last_turn : Host → List ℕ → List ℕ → ℕ → Turned
last_turn h image quotas q = turned (state_after h image quotas) image (plan_after h image) q

-- ---- a refused launch

-- "the launch's refusal, which every turn on that state then answers before anything else, with 0 blocks": whatever is lent, and with any quota
abbrev pub RefusedTurns : Type 0
RefusedTurns = (h : Host) (image : List ℕ) (r : Refusal) → (answer h image).refusal ≡ Some r → (ls : List Lent) (l : Lent)
    → turn_of (after_turns (start h image) ls) l ≡ halted (start h image) (Launch r)

-- ---- "If all turns are lent the image and plan of the start"

pub record OneRun (h : Host) (image : List ℕ) (quotas : List ℕ) (q : ℕ) : Type 0 where
  -- "the total of blocks is kept, the padding block counting as one more"
  pub total : (state_after h image quotas).total ≡ (answer h image).blocks + 1
  -- all quotas together are done, or the total where that is less; and just that was reported
  pub done : (state_after h image quotas).done ≡ min (sum quotas) ((answer h image).blocks + 1)
  pub told : reported (start h image) (lent_all image (plan_after h image) quotas) ≡ (state_after h image quotas).done
  -- one more turn, with a quota that is not 0, is not refused
  pub none : (last_turn h image quotas q).refusal ≡ None
  -- "the last answer equals the measurement of one run": from the turn on that does the padding block
  pub finished : (answer h image).blocks + 1 ≤ sum quotas + q → (last_turn h image quotas q).measurement ≡ (answer h image).measurement
  -- before it, "48 zero bytes"
  pub unfinished : sum quotas + q < (answer h image).blocks + 1 → (last_turn h image quotas q).measurement ≡ replicate 48 0

abbrev pub TurnsAreOneRun : Type 0
TurnsAreOneRun = (h : Host) (image : List ℕ) → Accepts h image → (quotas : List ℕ) (q : ℕ) → (q ≡ 0 → ⊥) → OneRun h image quotas q

-- a cut that comes to the end: the last quota is not 0, and all together reach the total
pub record Ends (h : Host) (image : List ℕ) (quotas : List ℕ) (q : ℕ) : Type 0 where
  pub some : q ≡ 0 → ⊥
  pub enough : (answer h image).blocks + 1 ≤ sum quotas + q

-- "equal streams give equal finished measurements": any images, maps, widths and buffers, and any two cuts
abbrev pub EqualStreamsFinish : Type 0
EqualStreamsFinish = (h h' : Host) (image image' : List ℕ) → Accepts h image → Accepts h' image' → stream_of h image ≡ stream_of h' image'
    → (quotas quotas' : List ℕ) (q q' : ℕ) → Ends h image quotas q → Ends h' image' quotas' q'
    → (last_turn h image quotas q).measurement ≡ (last_turn h' image' quotas' q').measurement

-- "and the image changed" where the launch reads nothing of it "finishes with the same one"
abbrev pub ChangedFinishes : Type 0
ChangedFinishes = (h : Host) (image other : List ℕ) → Accepts h image → ChangedOutside image other
    → (quotas quotas' : List ℕ) (q q' : ℕ) → Ends h image quotas q → Ends h other quotas' q'
    → (last_turn h other quotas' q').measurement ≡ (last_turn h image quotas q).measurement
