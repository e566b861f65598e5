-- What is promised of a launch that is measured in turns, proved: each declaration's type is a statement of specs/InTurns, whole. Assumes nothing.
use mathlib.Core.Path.{◌≡◌, refl, sym, ap, ◌∙◌}
use mathlib.Core.List.{List, [], ◌∷◌}
use Prim.Native.Nat.{ℕ, ◌+◌}
use native.Mathlib.Omega.{arith}
use Rattle.sha384.specs.Hash.{sha384}
use Rattle.verdict.specs.declared.Refusal.{Refusal}
use Rattle.std.specs.Prelude.{Some}
use Rattle.measure.specs.declared.Progress.{Progress}
use Rattle.measure.specs.declared.Turned.{Turned}
use Rattle.measure.specs.Turn.{answered, halted}
use Rattle.measure.specs.Turns.{Lent, turn_of, after_turns, lent_all}
use Rattle.measure.proofs.Quotas.{turned-refused}
use Rattle.measure.proofs.Held.{held}
use Rattle.measure.proofs.Cuts.{cut-done, cut-turn, cut-unfinished}
use Rattle.launch.specs.declared.Answer.{Answer}
use Rattle.launch.specs.Host.{Host}
use Rattle.launch.specs.Launch.{accepted_answer, answer, plan_after}
use Rattle.launch.specs.Demands.{Accepts}
use Rattle.launch.specs.InTurns.{start, RefusedTurns, TurnsAreOneRun, EqualStreamsFinish, ChangedFinishes}
use Rattle.launch.proofs.Refused as refused
use Rattle.launch.proofs.Demands.{accepts-accepted}
use Rattle.launch.proofs.Unread.{demand-3-unread}
use Rattle.launch.proofs.OneTurn.{first-refusal, first-total, first_done, ready, turns-finish}

-- ---- a refused launch

-- turns leave a refused state as it is
refused-stays : (s : Progress) (r : Refusal) → s.refusal ≡ Some r → (ls : List Lent) → after_turns s ls ≡ s
unfolding after_turns halted
refused-stays s r e [] = refl
refused-stays s r e (l ∷ ls) =
    ap (λ (t : Turned). after_turns t.next ls) (turned-refused s l.image l.plan l.quota r e) ∙ refused-stays s r e ls

pub refused-turns : RefusedTurns
refused-turns h image r e ls l =
    let s : Progress = start h image in
    let some : s.refusal ≡ Some r = first-refusal h image ∙ e in
    ap (λ (t : Progress). turn_of t l) (refused-stays s r some ls) ∙ turned-refused s l.image l.plan l.quota r some

-- ---- one run

pub turns-are-one-run : TurnsAreOneRun
unfolding answered
turns-are-one-run h image a quotas q some =
    let s : Progress = start h image in
    let plan : List ℕ = plan_after h image in
    let r = ready h image a in
    let n : ℕ = (answer h image).blocks in
    let total : s.total ≡ n + 1 = first-total h image in
    let zero : s.done ≡ 0 = first_done h image in
    let after = held s (lent_all image plan quotas) in
    record {
      total = after.total ∙ total;
      done = cut-done image plan s r (omega arith) quotas q some ∙ omega arith;
      told = sym (after.done ∙ omega arith);
      none = ap (λ (t : Turned). t.refusal) (cut-turn image plan s r (omega arith) quotas q some);
      finished = turns-finish h image a quotas q some;
      unfinished = λ l. cut-unfinished image plan s r (omega arith) quotas q some (omega arith);
    }

-- ---- what finished measurements tell

measurement-is : (h : Host) (image : List ℕ) → Accepts h image → (answer h image).measurement ≡ (accepted_answer h image).measurement
measurement-is h image a = ap (λ (r : Answer). r.measurement) (refused.accepted-answer h image ((accepts-accepted h image).0 a))

pub equal-streams-finish : EqualStreamsFinish
unfolding accepted_answer
equal-streams-finish h h' image image' a a' e quotas quotas' q q' c c' =
    turns-finish h image a quotas q c.some c.enough
    ∙ measurement-is h image a
    ∙ ap sha384 e
    ∙ sym (measurement-is h' image' a')
    ∙ sym (turns-finish h' image' a' quotas' q' c'.some c'.enough)

pub changed-finishes : ChangedFinishes
changed-finishes h image other a c quotas quotas' q q' e e' =
    let same = demand-3-unread h image other a c in
    turns-finish h other same.accepted quotas' q' e'.some e'.enough
    ∙ ap (λ (r : Answer). r.measurement) same.answers
    ∙ sym (turns-finish h image a quotas q e.some e.enough)
