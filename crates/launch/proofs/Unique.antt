-- The contracts of `launch` and of `begin` leave one answer and one content of both buffers. It is stated over the contracts that are generated from the
-- functions' own text, so nothing is repeated here that could differ from them. Assumes nothing.
use mathlib.Core.Path.{◌≡◌, sym, ◌∙◌}
use contract.Lifetimes.{Lfts}
use borrow.Fn.World.{ArgsD, ResD}
use borrow.Fn.Kinds.{ended_of}
use denote.Triple.Clauses.{AtExit}
use Rattle.launch.specs.contracts.launch as entry
use Rattle.launch.proofs.launch.Kinds as kinds
use Rattle.launch.proofs.launch.Reads as reads
use Rattle.launch.specs.contracts.begin as start
use Rattle.launch.proofs.begin.Kinds as start-kinds
use Rattle.launch.proofs.begin.Reads as start-reads

pub launch-unique : (κs : Lfts 4) (a : ArgsD entry.signature κs) (r r' : ResD entry.signature κs)
    (s s' : AtExit (ended_of 4 kinds.ps kinds.r) κs) → reads.Post κs a r s → reads.Post κs a r' s'
    → (r ≡ r') × ((s.1.1.1.0.now ≡ s'.1.1.1.0.now) × (s.1.1.1.1.0.now ≡ s'.1.1.1.1.0.now))
launch-unique κs a r r' s s' p q = (p.0 ∙ sym q.0, (p.1.0 ∙ sym q.1.0, p.1.1 ∙ sym q.1.1))

pub begin-unique : (κs : Lfts 4) (a : ArgsD start.signature κs) (r r' : ResD start.signature κs)
    (s s' : AtExit (ended_of 4 start-kinds.ps start-kinds.r) κs) → start-reads.Post κs a r s → start-reads.Post κs a r' s'
    → (r ≡ r') × ((s.1.1.1.0.now ≡ s'.1.1.1.0.now) × (s.1.1.1.1.0.now ≡ s'.1.1.1.1.0.now))
begin-unique κs a r r' s s' p q = (p.0 ∙ sym q.0, (p.1.0 ∙ sym q.1.0, p.1.1 ∙ sym q.1.1))
