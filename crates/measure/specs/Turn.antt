-- The measurement in turns: what a turn does with the state that it is handed, and what it answers. The state is a `Progress`; the
-- image and the plan are those that are lent in that turn.
-- Assumes nothing.
use Rattle.std.specs.Prelude.{ℕ, ◌+◌, ◌-◌, ◌*◌, ◌/◌, min, Bool, not, ◌&&◌, List, length, take, replicate, ◌==◌, nat_le, Option, None, Some, option_map, unwrap_or}
use Rattle.sha384.specs.Padding.{padding}
use Rattle.sha384.specs.Hash.{left384}
use Rattle.verdict.specs.declared.Place.{Place}
use Rattle.verdict.specs.declared.Place.TheVariants.{Nowhere}
use Rattle.verdict.specs.Refusal.{number, place}
use Rattle.verdict.specs.Rules.{pick}
use Rattle.measure.specs.declared.Progress.{Progress}
use Rattle.measure.specs.declared.Turned.{Turned}
use Rattle.measure.specs.declared.TurnRefusal.{TurnRefusal}
use Rattle.measure.specs.declared.TurnRefusal.TheVariants.{Launch, Quota, Lengths}
use Rattle.measure.specs.Stream.{block_at, folded}

-- ---- the refusals

-- the refusals' numbers; 0 where nothing is refused
unfoldable pub turn_number : Option TurnRefusal → ℕ
turn_number None = 0
turn_number (Some (Launch r)) = number (Some r)
turn_number (Some Quota) = 24
turn_number (Some Lengths) = 27

-- no place, but for the launch's own
unfoldable pub turn_place : Option TurnRefusal → Place
turn_place None = Nowhere
turn_place (Some (Launch r)) = place (Some r)
turn_place (Some Quota) = Nowhere
turn_place (Some Lengths) = Nowhere

-- ---- the blocks

-- the records that lie wholly in the plan's buffer: "a record not wholly inside the buffer reads as 16 zeros"
unfoldable pub whole_records : List ℕ → List ℕ
whole_records plan = take (16 * (length plan / 16)) plan

-- "After n reported blocks the next is the padding block if one alone is left of the total, else block n, from 0, of the stream of what is
-- lent in that turn". The padding block ends a message of n blocks of 128 bytes
unfoldable pub next_block : List ℕ → List ℕ → ℕ → ℕ → List ℕ
next_block image plan total n = pick (total - n == 1) (padding (128 * n)) (block_at image (whole_records plan) n)

-- "A turn reports the number of blocks done, the smaller of q and what is left of that total"
unfoldable pub blocks_in : Progress → ℕ → ℕ
blocks_in s q = min q (s.total - s.done)

-- ---- the state after a turn that is not refused

unfoldable pub advanced : Progress → List ℕ → List ℕ → ℕ → Progress
advanced s image plan q =
    record {
      hash = folded (next_block image plan s.total) s.hash s.done (blocks_in s q);
      done = s.done + blocks_in s q;
      total = s.total;
      image = s.image;
      plan = s.plan;
      refusal = s.refusal;
    }

-- ---- the answer

-- nothing is left of the total
unfoldable pub is_finished : Progress → Bool
is_finished s = nat_le s.total s.done

-- "A finished state answers its measurement", "an unfinished .. turn 48 zero bytes"
unfoldable pub measurement_of : Progress → List ℕ
measurement_of s = pick (is_finished s) (left384 s.hash) (replicate 48 0)

unfoldable pub answered : Progress → ℕ → Turned
answered next blocks = record { next = next; refusal = None; blocks = blocks; measurement = measurement_of next }

-- "Refusals, state unchanged, 0 blocks", "48 zero bytes"
unfoldable pub halted : Progress → TurnRefusal → Turned
halted s r = record { next = s; refusal = Some r; blocks = 0; measurement = replicate 48 0 }

-- "where the image or plan buffer has another length than at the start"
unfoldable pub other_lengths : Progress → ℕ → ℕ → Bool
other_lengths s image plan = not (image == s.image && plan == s.plan)

-- "the launch's refusal, which every turn on that state then answers before anything else", "24 for q = 0, then 27", "before the finished
-- answer". Of a finished state nothing is left, so that its turn does 0 blocks and leaves it as it is
unfoldable pub turned : Progress → List ℕ → List ℕ → ℕ → Turned
turned s image plan q =
    unwrap_or (option_map (λ r. halted s (Launch r)) s.refusal)
    (pick (q == 0) (halted s Quota)
    (pick (other_lengths s (length image) (length plan)) (halted s Lengths)
    (answered (advanced s image plan q) (blocks_in s q))))
