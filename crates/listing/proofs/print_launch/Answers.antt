-- `listing::print_launch` is safe: the answer of a launch names at most 4,096 pages, which is what printing it asks.
-- Assumes nothing.
use Rattle.launch.proofs.Few.{pages-few}
use Rattle.listing.proofs.print_launch.Goals as goal

pub print_answer-requires : goal.print_answer-requires
print_answer-requires g c = pages-few _ _ _ c.launch-answer.ensures.answered
