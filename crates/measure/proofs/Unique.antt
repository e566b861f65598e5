-- The contract of `turn` leaves one answer, for every state. It is stated over the contract that is generated from the function's own text. Assumes
-- nothing.
use Rattle.std.proofs.Common.{◌≡◌, sym, ◌∙◌}
use contract.Lifetimes.{Lfts}
use borrow.Fn.World.{ArgsD, ResD}
use borrow.Fn.Kinds.{ended_of}
use denote.Triple.Clauses.{AtExit}
use Rattle.measure.specs.contracts.turn as entry
use Rattle.measure.proofs.turn.Kinds as kinds
use Rattle.measure.proofs.turn.Reads as reads

pub turn-unique : (κs : Lfts 2) (a : ArgsD entry.signature κs) (r r' : ResD entry.signature κs)
    (s s' : AtExit (ended_of 2 kinds.ps kinds.r) κs) → reads.Post κs a r s → reads.Post κs a r' s' → r ≡ r'
turn-unique κs a r r' s s' p q = p ∙ sym q
