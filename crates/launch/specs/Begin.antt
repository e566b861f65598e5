-- How a measurement in turns begins: "with the launch's checks and plan, or the launch's refusal". Assumes nothing.
use Rattle.std.specs.Prelude.{List, ℕ, ◌+◌, length, replicate, None}
use Rattle.sha384.specs.Constants.{H⁰}
use Rattle.measure.specs.declared.Progress.{Progress}
use Rattle.launch.specs.declared.Answer.{Answer}
use Rattle.launch.specs.declared.Begun.{Begun}
use Rattle.launch.specs.declared.Layout.{Layout}
use Rattle.launch.specs.Host.{Host}
use Rattle.launch.specs.Launch.{answer}

-- the answer of a launch that breaks no rule, by what the checks found and what was counted and measured
unfoldable pub answer_of : Layout → ℕ → List ℕ → Answer
answer_of l blocks measurement = record { refusal = None; pages = l.pages; handoff = l.handoff; blocks = blocks; measurement = measurement }

-- an answer with 48 zero bytes in the measurement's place
unfoldable pub unmeasured : Answer → Answer
unmeasured a = record { refusal = a.refusal; pages = a.pages; handoff = a.handoff; blocks = a.blocks; measurement = replicate 48 0 }

-- the first state: no block is done, and "the total of blocks is kept, the padding block counting as one more"
unfoldable pub first_progress : Answer → ℕ → ℕ → Progress
first_progress a image plan = record { hash = H⁰; done = 0; total = a.blocks + 1; image = image; plan = plan; refusal = a.refusal }

-- an answer, and the first state that goes with it
unfoldable pub started_with : Answer → ℕ → ℕ → Begun
started_with a image plan = record { answer = a; progress = first_progress a image plan }

unfoldable pub begun : Host → List ℕ → Begun
begun h image = started_with (unmeasured (answer h image)) (length image) h.plan
