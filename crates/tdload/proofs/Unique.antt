-- The contracts of `tdload_launch`, `tdload_begin`, `tdload_turn` (of any state), `tdload_view` and `tdload_sha384` leave one answer, and one content of every lent buffer. They are stated
-- over the contracts that are generated from the functions' own text. Assumes nothing.
use mathlib.Core.Path.{◌≡◌, sym, ◌∙◌}
use contract.Lifetimes.{Lfts}
use borrow.Fn.World.{ArgsD, ResD}
use borrow.Fn.Kinds.{ended_of}
use denote.Triple.Clauses.{AtExit}
use Rattle.tdload.specs.contracts.tdload_launch as launch
use Rattle.tdload.proofs.tdload_launch.Kinds as launch-kinds
use Rattle.tdload.proofs.tdload_launch.Reads as launch-reads
use Rattle.tdload.specs.contracts.tdload_begin as begin
use Rattle.tdload.proofs.tdload_begin.Kinds as begin-kinds
use Rattle.tdload.proofs.tdload_begin.Reads as begin-reads
use Rattle.tdload.specs.contracts.tdload_turn as turn
use Rattle.tdload.proofs.tdload_turn.Kinds as turn-kinds
use Rattle.tdload.proofs.tdload_turn.Reads as turn-reads
use Rattle.tdload.specs.contracts.tdload_view as view
use Rattle.tdload.proofs.tdload_view.Kinds as view-kinds
use Rattle.tdload.proofs.tdload_view.Reads as view-reads
use Rattle.tdload.specs.contracts.tdload_sha384 as digest
use Rattle.tdload.proofs.tdload_sha384.Kinds as digest-kinds
use Rattle.tdload.proofs.tdload_sha384.Reads as digest-reads

pub launch-unique : (κs : Lfts 4) (a : ArgsD launch.signature κs) (r r' : ResD launch.signature κs)
    (s s' : AtExit (ended_of 4 launch-kinds.ps launch-kinds.r) κs) → launch-reads.Post κs a r s → launch-reads.Post κs a r' s'
    → (r ≡ r') × ((s.1.1.1.0.now ≡ s'.1.1.1.0.now) × (s.1.1.1.1.0.now ≡ s'.1.1.1.1.0.now))
launch-unique κs a r r' s s' p q = (p.0 ∙ sym q.0, (p.1.0 ∙ sym q.1.0, p.1.1 ∙ sym q.1.1))

pub begin-unique : (κs : Lfts 4) (a : ArgsD begin.signature κs) (r r' : ResD begin.signature κs)
    (s s' : AtExit (ended_of 4 begin-kinds.ps begin-kinds.r) κs) → begin-reads.Post κs a r s → begin-reads.Post κs a r' s'
    → (r ≡ r') × ((s.1.1.1.0.now ≡ s'.1.1.1.0.now) × (s.1.1.1.1.0.now ≡ s'.1.1.1.1.0.now))
begin-unique κs a r r' s s' p q = (p.0 ∙ sym q.0, (p.1.0 ∙ sym q.1.0, p.1.1 ∙ sym q.1.1))

pub turn-unique : (κs : Lfts 2) (a : ArgsD turn.signature κs) (r r' : ResD turn.signature κs)
    (s s' : AtExit (ended_of 2 turn-kinds.ps turn-kinds.r) κs) → turn-reads.Post κs a r s → turn-reads.Post κs a r' s' → r ≡ r'
turn-unique κs a r r' s s' p q = p ∙ sym q

pub view-unique : (κs : Lfts 1) (a : ArgsD view.signature κs) (r r' : ResD view.signature κs)
    (s s' : AtExit (ended_of 1 view-kinds.ps view-kinds.r) κs) → view-reads.Post κs a r s → view-reads.Post κs a r' s' → r ≡ r'
view-unique κs a r r' s s' p q = p ∙ sym q

pub digest-unique : (κs : Lfts 2) (a : ArgsD digest.signature κs) (r r' : ResD digest.signature κs)
    (s s' : AtExit (ended_of 2 digest-kinds.ps digest-kinds.r) κs) → digest-reads.Post κs a r s → digest-reads.Post κs a r' s'
    → s.1.0.now ≡ s'.1.0.now
digest-unique κs a r r' s s' p q = p ∙ sym q
