-- The measurement in turns: turns one after the other, whatever is lent in each, and what is promised of them. Assumes nothing.
use Rattle.std.specs.Prelude.{◌≡◌, ℕ, ◌+◌, List, [], ◌∷◌, ◌++◌, map, length}
use mathlib.Core.List.{Memᴰ}
use Rattle.sha384.specs.Hash.{after}
use Rattle.verdict.specs.Turns.{up_to}
use Rattle.measure.specs.declared.Progress.{Progress}
use Rattle.measure.specs.declared.Turned.{Turned}
use Rattle.measure.specs.Stream.{joined}
use Rattle.measure.specs.Turn.{next_block, turned}

-- what a turn is lent, and its quota
pub record Lent : Type 0 where
  pub image : List ℕ
  pub plan : List ℕ
  pub quota : ℕ

abbrev pub turn_of : Progress → Lent → Turned
turn_of s l = turned s l.image l.plan l.quota

-- the state after turns
unfoldable pub after_turns : Progress → List Lent → Progress
after_turns s [] = s
after_turns s (l ∷ ls) = after_turns (turn_of s l).next ls

-- how many blocks they reported
unfoldable pub reported : Progress → List Lent → ℕ
reported s [] = 0
reported s (l ∷ ls) = (turn_of s l).blocks + reported (turn_of s l).next ls

-- which blocks these are: of a turn that reported n blocks, the next n of what was lent in it
unfoldable pub reported_blocks : Progress → List Lent → List (List ℕ)
reported_blocks s [] = []
reported_blocks s (l ∷ ls) =
    up_to (λ i. next_block l.image l.plan s.total (s.done + i)) (turn_of s l).blocks ++ reported_blocks (turn_of s l).next ls

-- what holds after any turns, from any state on
pub record Held (s : Progress) (ls : List Lent) : Type 0 where
  -- "After each turn the hash value held is the FIPS 180-4 one after exactly the blocks reported so far"
  pub hash : (after_turns s ls).hash ≡ after s.hash (joined (reported_blocks s ls)) (reported s ls)
  -- each of them is of 128 bytes, and there are as many as were reported
  pub blocks : (b : List ℕ) → Memᴰ b (reported_blocks s ls) → length b ≡ 128
  pub count : length (reported_blocks s ls) ≡ reported s ls
  pub done : (after_turns s ls).done ≡ s.done + reported s ls
  -- all else stays
  pub total : (after_turns s ls).total ≡ s.total
  pub image : (after_turns s ls).image ≡ s.image
  pub plan : (after_turns s ls).plan ≡ s.plan
  pub refusal : (after_turns s ls).refusal ≡ s.refusal

-- ---- turns that are all lent the same, in any cut into quotas

unfoldable pub lent_all : List ℕ → List ℕ → List ℕ → List Lent
lent_all image plan quotas = map (λ q. record { image = image; plan = plan; quota = q }) quotas
