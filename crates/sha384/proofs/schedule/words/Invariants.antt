-- `sha384::schedule::words` meets its contract. After each turn the first t words are the schedule's, and from t = 16 on
-- the next word is made of four words that stand there already. Assumes nothing.
use Rattle.std.proofs.Common.{◌≡◌, length, take}
use Rattle.sha384.specs.Hash.{schedule}
use Rattle.sha384.proofs.schedule.words.Given as goal

abbrev pub invariant-loop-t : goal.invariant-loop-t
invariant-loop-t l = record { long : length l.w ≡ 80; so_far : take l.t l.w ≡ schedule l.block l.t }
