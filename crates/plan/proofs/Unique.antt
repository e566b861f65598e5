-- The contract of the page view leaves one content of the part that it answers. It is stated over the contract that is generated from the
-- function's own text. Which of two equal parts is answered is not said: an empty part may be one of either slice. Assumes nothing.
use mathlib.Core.Path.{◌≡◌, sym, ◌∙◌}
use contract.Lifetimes.{Lfts}
use borrow.Fn.World.{ArgsD, ResD}
use borrow.Fn.Kinds.{ended_of}
use denote.Triple.Clauses.{AtExit}
use Rattle.plan.specs.contracts.view as entry
use Rattle.plan.proofs.view.Kinds as kinds
use Rattle.plan.proofs.view.Reads as reads

pub view-unique : (κs : Lfts 1) (a : ArgsD entry.signature κs) (r r' : ResD entry.signature κs)
    (s s' : AtExit (ended_of 1 kinds.ps kinds.r) κs) → reads.Post κs a r s → reads.Post κs a r' s' → r.now ≡ r'.now
view-unique κs a r r' s s' p q = p ∙ sym q
