-- `handoff::RecordPieces::next` gives the first piece that is left, and leaves the others. Assumes nothing.
use mathlib.Core.Path.{◌≡◌, sym, ap, ◌∙◌}
use mathlib.Core.List.{[], ◌∷◌, ◌++◌}
use Prim.Native.Nat.{ℕ, ◌-◌}
use native.Mathlib.Omega.{arith}
use borrow.Author.Rules.{rules}
use Rattle.std.proofs.Common.{Option, None}
use Rattle.std.specs.Option.{option_to_list}
use Rattle.handoff.specs.declared.Piece.{Piece}
use Rattle.handoff.specs.Pieces.{cut}
use Rattle.handoff.proofs.Cut.{cut-none, cut-end, cut_turn}
use Rattle.handoff.proofs.RecordPiecesIterator.next.Goals.{then-self-eq0-via-then-self-eq0, then-self-eq0-via-else-self-eq0+then-self}
use Rattle.handoff.proofs.RecordPiecesIterator.next.Goals as goal

pub returns-then-self-eq0-clause-steps : goal.returns-then-self-eq0-clause-steps
returns-then-self-eq0-clause-steps c =
    let s = c.self.inside in
    let ss = s.table.now in
    let mapped : s.mapped ≡ None = cc in
    let after : c.take.new.self ≡ None = cc in
    let over : cut s.steps ss s.at s.top ≡ [] =
    elim c.then-self-eq0.branch [
      | then-self-eq0-via-then-self-eq0 w ↦ let z : s.steps ≡ 0 = omega arith in ap (λ (n : ℕ). cut n ss s.at s.top) z ∙ cut-none ss s.at s.top
      | then-self-eq0-via-else-self-eq0+then-self w ↦ cut-end s.steps ss s.at s.top (omega arith)
    ] in (
      sym c.self.view_is ∙ ap (λ (o : Option Piece). option_to_list o ++ cut s.steps ss s.at s.top) mapped ∙ over,
      ap (λ (o : Option Piece). option_to_list o ++ cut s.steps ss s.at s.top) after ∙ over,
    )

pub returns-clause-steps : goal.returns-clause-steps
returns-clause-steps c =
    let s = c.self.inside in
    let ss = s.table.now in
    let p = c.piece_at-p in
    let mapped : s.mapped ≡ None = cc in
    let after : c.take.new.self ≡ None = cc in
    sym c.self.view_is
    ∙ ap (λ (o : Option Piece). option_to_list o ++ cut s.steps ss s.at s.top) mapped
    ∙ cut_turn s.steps ss s.at c.past-self-inside.result s.top p.result (omega arith) (omega arith) p.ensures c.past-self-inside.ensures
    ∙ ap (λ (o : Option Piece). p.result ∷ option_to_list o ++ cut (s.steps - 1) ss c.past-self-inside.result s.top) (sym after)

pub returns-clause-goes : goal.returns-clause-goes
returns-clause-goes c = rw (returns-clause-steps c) (search rules)
