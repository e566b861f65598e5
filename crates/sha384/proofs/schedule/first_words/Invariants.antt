-- `sha384::schedule::first_words` meets its contract. After t turns the first t words are the schedule's, and for t below
-- 16 the next word of the schedule is the block's own. Assumes nothing.
use Rattle.std.proofs.Common.{◌≡◌, length, take}
use Rattle.sha384.specs.Hash.{schedule}
use Rattle.sha384.proofs.schedule.first_words.Given as goal

abbrev pub invariant-loop-t : goal.invariant-loop-t
invariant-loop-t l = record { long : length l.w ≡ 80; so_far : take l.t l.w ≡ schedule l.block l.t }
