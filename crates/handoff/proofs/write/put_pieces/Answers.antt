-- `handoff::write::put_pieces`: the goals that are answered by hand. Invariants.antt says why it meets its contract. Assumes nothing.
use mathlib.Core.Path.{◌≡◌, sym, ap, ◌∙◌}
use mathlib.Core.List.{List, [], ◌∷◌, ◌++◌, append_assoc}
use native.Mathlib.Omega.{arith}
use lib.ListN.{length, length-append}
use Rattle.wire.proofs.Sets.{part_sets}
use Rattle.handoff.specs.declared.Piece.{Piece}
use Rattle.handoff.specs.List.{piece_block}
use Rattle.handoff.proofs.Size.{piece-length}
use Rattle.handoff.proofs.Written.{blocks-none, pieces-turn}
use Rattle.handoff.proofs.write.put_pieces.Goals as goal

pub loop-p-init : goal.loop-p-init
loop-p-init c =
    let a = c.args in
    record {
      all_pieces = c.into_iter-p-iterator.ensures.into_iter_gives;
      place = omega arith;
      written = blocks-none a.part.now 0;
    }

pub loop-p-preserved : goal.loop-p-preserved
loop-p-preserved c =
    let l = c.loop-p in
    let p = c.in-Some.p in
    let rest : List Piece = c.next.new.self in
    let all : l.yielded ++ (p ∷ rest) ≡ c.args.pieces = ap (λ (ps : List Piece). l.yielded ++ ps) (sym c.in-Some.ensures.steps) ∙ l.invariant.all_pieces in
    record {
      all_pieces = append_assoc l.yielded (p ∷ []) rest ∙ all;
      place = omega (arith, length-append l.yielded (p ∷ []));
      written = pieces-turn c.args.part.now l.part _ l.next l.yielded p l.invariant.place l.invariant.written
          (part_sets l.part _ (piece_block p) l.next _ c.put_piece.ensures (omega (arith, piece-length p))
          (omega (arith, ap length all, length-append l.yielded (p ∷ rest))));
    }
