-- A turn through C: a refused state stands as it is, a state of the library's own turns as `turn` does, and a refusal leaves any state as it was.
-- Assumes nothing.
use mathlib.Core.Path.{◌≡◌, refl, sym, ap, ◌∙◌}
use mathlib.Core.List.{List, [], ◌∷◌}
use Prim.Native.Nat.{ℕ}
use native.Mathlib.Decide.{ℕ_discrete}
use native.Mathlib.Omega.{arith}
use borrow.Author.Tests.{eq-eqb, ne_eqb}
use lib.ListN.{length, drop_of_length-le}
use lib.Seq.{drop-cons}
use Rattle.sha384.specs.declared.State as of-hash
use Rattle.std.specs.Prelude.{Option, None, Some}
use Rattle.verdict.specs.declared.Refusal.{Refusal}
use Rattle.verdict.proofs.Rules.{some-none, nothing-number}
use Rattle.measure.specs.declared.Progress.{Progress}
use Rattle.measure.specs.declared.Turned as of-turned
use Rattle.measure.specs.Turn.{turn_number, turn_place, halted, turned}
use Rattle.measure.specs.Turns.{after_turns}
use Rattle.measure.proofs.Quotas.{turned-refused}
use Rattle.measure.proofs.Held.{refused-turn, held}
use Rattle.tdload.specs.declared.State.{State}
use Rattle.tdload.specs.declared.Turned.{Turned}
use Rattle.tdload.specs.Outward.{words_of, hash_of, state_of, progress_of, moved, turned_with, standing, turn_answer}

module _ (s : State) (image plan : List ℕ) (q : ℕ) where
  pub answer-refused : (s.refusal ≡ 0 → ⊥) → turn_answer s image plan q ≡ standing s
  unfolding turn_answer
  answer-refused h = rw (ne_eqb s.refusal 0 h)

  pub answer-turned : s.refusal ≡ 0 → (p : Progress) (t : of-turned.Turned) → p ≡ progress_of s → t ≡ turned p image plan q
      → turn_answer s image plan q ≡ turned_with (moved s t.next) t
  unfolding turn_answer
  answer-turned e p t f g =
      rw (eq-eqb s.refusal 0 e)
      (ap (λ (u : of-turned.Turned). turned_with (moved s u.next) u) (ap (λ (r : Progress). turned r image plan q) (sym f) ∙ sym g))

-- ---- a state of the library's own

-- its words hold the hash value
words-hash : (h : of-hash.State) → hash_of (words_of h) ≡ h
unfolding hash_of words_of
words-hash h = refl

-- what a turn never changes
kept : (p : Progress) (image plan : List ℕ) (q : ℕ) → moved (state_of p) (turned p image plan q).next ≡ state_of (turned p image plan q).next
unfolding moved state_of after_turns
kept p image plan q =
    let h = held p (record { image = image; plan = plan; quota = q } ∷ []) in
    rw (h.total, h.image, h.plan, h.refusal)

-- THE THEOREM: a turn through C on a state of the library's own is the library's turn, in numbers
pub answer-is : (p : Progress) (image plan : List ℕ) (q : ℕ)
    → turn_answer (state_of p) image plan q ≡ turned_with (state_of (turned p image plan q).next) (turned p image plan q)
unfolding state_of progress_of standing turned_with halted turn_number turn_place
answer-is p image plan q = step p.refusal refl
  where
    step : (r : Option Refusal) → p.refusal ≡ r → turn_answer (state_of p) image plan q ≡ turned_with (state_of (turned p image plan q).next) (turned p image plan q)
    step None e =
        let same : p ≡ progress_of (state_of p) = rw (words-hash p.hash, e) in
        answer-turned (state_of p) image plan q ((nothing-number p.refusal).1 e) p (turned p image plan q) same refl
        ∙ ap (λ (s : State). turned_with s (turned p image plan q)) (kept p image plan q)
    step (Some r) e =
        answer-refused (state_of p) image plan q (λ z. some-none (sym e ∙ (nothing-number p.refusal).0 z))
        ∙ rw e refl
        ∙ sym (ap (λ (u : of-turned.Turned). turned_with (state_of u.next) u) (turned-refused p image plan q r e))

-- ---- any state

-- eight words are those of their hash value
hash-words : (w : List ℕ) → length w ≡ 8 → words_of (hash_of w) ≡ w
unfolding words_of hash_of
hash-words w l =
    sym
    (drop-cons w 0 0 (omega arith)
    ∙ rw (drop-cons w 1 0 (omega arith), drop-cons w 2 0 (omega arith), drop-cons w 3 0 (omega arith), drop-cons w 4 0 (omega arith), drop-cons w 5 0 (omega arith), drop-cons w 6 0 (omega arith), drop-cons w 7 0 (omega arith), drop_of_length-le w {i = 8} (omega arith)))

-- and where a turn leaves the words and the count as they are, it leaves the state so
unmoved : (s : State) → length s.hash ≡ 8 → moved s (progress_of s) ≡ s
unfolding moved progress_of
unmoved s l = rw (hash-words s.hash l)

-- THE THEOREM: a refusal leaves every state as it was, with 0 blocks. (That the hash has eight words is in its type)
pub state-stays : (s : State) (image plan : List ℕ) (q : ℕ) → length s.hash ≡ 8 → ((turn_answer s image plan q).refusal ≡ 0 → ⊥)
    → ((turn_answer s image plan q).state ≡ s) × ((turn_answer s image plan q).blocks ≡ 0)
unfolding standing turned_with halted turn_number
state-stays s image plan q l n = step (ℕ_discrete s.refusal 0)
  where
    step : Dec (s.refusal ≡ 0) → ((turn_answer s image plan q).state ≡ s) × ((turn_answer s image plan q).blocks ≡ 0)
    step (yes e) =
        let p : Progress = progress_of s in
        let t : of-turned.Turned = turned p image plan q in
        let is = answer-turned s image plan q e p t refl refl in
        let stays = refused-turn p image plan q (λ z. n (ap (λ (u : Turned). u.refusal) is ∙ ap turn_number z)) in (
          ap (λ (u : Turned). u.state) is ∙ ap (λ (u : of-turned.Turned). moved s u.next) stays.1 ∙ unmoved s l,
          ap (λ (u : Turned). u.blocks) is ∙ ap (λ (u : of-turned.Turned). u.blocks) stays.1,
        )
    step (no m) =
        let is = answer-refused s image plan q m in (ap (λ (u : Turned). u.state) is, ap (λ (u : Turned). u.blocks) is)
