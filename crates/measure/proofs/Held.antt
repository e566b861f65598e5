-- Turns one after the other: the hash value after them is FIPS 180-4's after the blocks that they reported. Assumes nothing.
use Rattle.std.proofs.Common.{◌≡◌, ℕ, zero, suc, ◌+◌, ◌-◌, ◌*◌, ◌≤◌, true, false, ◌⊎◌, List, [], ◌∷◌, ◌++◌, length, sym, refl, ap, ◌∙◌, ap₂, inl, inr, append_assoc, append-nil, add-zero, add-one, arith, length-append, take_all}
use mathlib.Core.List.Memᴰ
use mathlib.Core.List.{Memᴰ}
use native.Mathlib.Decide.{ℕ_discrete}
use Rattle.sha384.specs.declared.State.{State}
use Rattle.sha384.specs.Padding.{block}
use Rattle.sha384.specs.Hash.{compressed, after}
use Rattle.sha384.proofs.Pad.{padding-whole}
use Rattle.sha384.proofs.Hash.{after_none, after-right}
use Rattle.std.specs.Prelude.{Option, None, Some}
use Rattle.verdict.specs.declared.Refusal.{Refusal}
use Rattle.verdict.specs.Turns.{in_turn, up_to}
use Rattle.verdict.proofs.Rules.{either}
use Rattle.measure.specs.declared.Progress.{Progress}
use Rattle.measure.specs.declared.Turned.{Turned}
use Rattle.measure.specs.declared.TurnRefusal.{TurnRefusal}
use Rattle.measure.specs.declared.TurnRefusal.TheVariants.{Launch, Quota, Lengths}
use Rattle.measure.specs.Stream.{joined, folded}
use Rattle.measure.specs.Turn.{whole_records, next_block, blocks_in, advanced, answered, halted, other_lengths, turned}
use Rattle.measure.specs.Turns.{Lent, turn_of, after_turns, reported, reported_blocks, Held}
use Rattle.measure.proofs.Length.{Blocks, blocks-append, joined_length}
use Rattle.measure.proofs.Blocks.{block-length}
use Rattle.measure.proofs.Run.{next-padding, next-stream}
use Rattle.measure.proofs.Quotas.{turned-refused, turned-quota, turned-lengths, turned_on}

-- ---- the next block is a block

pub next-length : (image plan : List ℕ) (total n : ℕ) → length (next_block image plan total n) ≡ 128
next-length image plan total n = step (ℕ_discrete (n + 1) total)
  where
    step : Dec (n + 1 ≡ total) → length (next_block image plan total n) ≡ 128
    step (yes e) = ap length (next-padding image plan total n e) ∙ padding-whole n
    step (no h) = ap length (next-stream image plan total n h) ∙ block-length image (whole_records plan) n

-- ---- blocks one after the other

pub joined-append : (bs cs : List (List ℕ)) → joined (bs ++ cs) ≡ joined bs ++ joined cs
unfolding joined
joined-append [] cs = refl
joined-append (b ∷ bs) cs = ap (λ (r : List ℕ). b ++ r) (joined-append bs cs) ∙ sym (append_assoc b (joined bs) (joined cs))

pub blocks-each : (bs : List (List ℕ)) → Blocks bs → (b : List ℕ) → Memᴰ b bs → length b ≡ 128
blocks-each [] h b m = absurd (Memᴰ.not-nil m)
blocks-each (c ∷ bs) h b m = by_place (blocks-each bs h.1 b) (Memᴰ.cases_cons m)
  where
    by_place : (Memᴰ b bs → length b ≡ 128) → (b ≡ c) ⊎ Memᴰ b bs → length b ≡ 128
    by_place rest (inl e) = ap length e ∙ h.0
    by_place rest (inr k) = rest k

-- one block is hashed
after_one : (r : State) (b : List ℕ) → length b ≡ 128 → compressed r b ≡ after r (joined (b ∷ [])) 1
unfolding after joined block
after_one r b l = ap (compressed r) (sym (take_all 128 (b ++ []) (omega (arith, ap length (append-nil b))) ∙ append-nil b))

-- n blocks from a function on, folded, are the hash value after them
module _ (f : ℕ → List ℕ) (whole : (i : ℕ) → length (f i) ≡ 128) where
  pub taken : (at n : ℕ) → Blocks (up_to (λ i. f (at + i)) n) × (length (up_to (λ i. f (at + i)) n) ≡ n)
  unfolding in_turn
  taken at zero = (tt, refl)
  taken at (suc n) =
      let fewer = taken at n in (
        blocks-append (up_to (λ i. f (at + i)) n) (f (at + n) ∷ []) fewer.0 (whole (at + n), tt),
        length-append (up_to (λ i. f (at + i)) n) (f (at + n) ∷ []) ∙ omega (arith, fewer.1),
      )

  pub folded-taken : (s : State) (at n : ℕ) → folded f s at n ≡ after s (joined (up_to (λ i. f (at + i)) n)) n
  unfolding folded in_turn
  folded-taken s at zero = after_none s (joined [])
  folded-taken s at (suc n) =
      let bs : List (List ℕ) = up_to (λ i. f (at + i)) n in
      let b : List ℕ = f (at + n) in
      ap (λ (r : State). compressed r b) (folded-taken s at n)
      ∙ after_one (after s (joined bs) n) b (whole (at + n))
      ∙ sym (after-right s (joined bs) (joined (b ∷ [])) n 1 (joined_length bs (taken at n).0 ∙ ap (λ (k : ℕ). 128 * k) (taken at n).1))
      ∙ ap₂ (λ (m : List ℕ) (k : ℕ). after s m k) (sym (joined-append bs (b ∷ []))) (add-one n)

-- ---- one turn

-- what a turn leaves: the state after n blocks, which it reports
unfoldable pub ran : Progress → List ℕ → List ℕ → ℕ → Progress
ran s image plan n =
    record {
      hash = folded (next_block image plan s.total) s.hash s.done n;
      done = s.done + n;
      total = s.total;
      image = s.image;
      plan = s.plan;
      refusal = s.refusal;
    }

pub ran-none : (s : Progress) (image plan : List ℕ) → s ≡ ran s image plan 0
unfolding ran folded
ran-none s image plan = rw (add-zero s.done)

-- a turn is refused, and leaves all as it was, or it does the blocks that the definition names
data Case (s : Progress) (image plan : List ℕ) (q : ℕ) : Type 0 where
  stops : (r : TurnRefusal) → turned s image plan q ≡ halted s r → Case s image plan q
  goes : turned s image plan q ≡ answered (advanced s image plan q) (blocks_in s q) → Case s image plan q

case-of : (s : Progress) (image plan : List ℕ) (q : ℕ) → Case s image plan q
case-of s image plan q = refusal s.refusal refl
  where
    lengths : s.refusal ≡ None → (q ≡ 0 → ⊥) → (other_lengths s (length image) (length plan) ≡ true) ⊎ (other_lengths s (length image) (length plan) ≡ false) → Case s image plan q
    lengths k some (inl e) = stops Lengths (turned-lengths s image plan q k some e)
    lengths k some (inr e) = goes (turned_on s image plan q k some e)

    quota : s.refusal ≡ None → Dec (q ≡ 0) → Case s image plan q
    quota k (yes e) = stops Quota (turned-quota s image plan q k e)
    quota k (no some) = lengths k some (either (other_lengths s (length image) (length plan)))

    refusal : (r : Option Refusal) → s.refusal ≡ r → Case s image plan q
    refusal None k = quota k (ℕ_discrete q 0)
    refusal (Some r) e = stops (Launch r) (turned-refused s image plan q r e)

pub turned-ran : (s : Progress) (image plan : List ℕ) (q : ℕ) → (turned s image plan q).next ≡ ran s image plan (turned s image plan q).blocks
unfolding answered halted advanced ran
turned-ran s image plan q = step (case-of s image plan q)
  where
    step : Case s image plan q → (turned s image plan q).next ≡ ran s image plan (turned s image plan q).blocks
    step (stops r e) = rw e (ran-none s image plan)
    step (goes e) = rw e

-- "Refusals, state unchanged, 0 blocks", and 48 zero bytes: every turn that is refused
pub refused-turn : (s : Progress) (image plan : List ℕ) (q : ℕ) → ((turned s image plan q).refusal ≡ None → ⊥)
    → (r : TurnRefusal) × (turned s image plan q ≡ halted s r)
unfolding answered
refused-turn s image plan q n = step (case-of s image plan q)
  where
    step : Case s image plan q → (r : TurnRefusal) × (turned s image plan q ≡ halted s r)
    step (stops r e) = (r, e)
    step (goes e) = absurd (n (ap (λ (t : Turned). t.refusal) e))

-- no turn does more than is left
pub turned-most : (s : Progress) (image plan : List ℕ) (q : ℕ) → (turned s image plan q).blocks ≤ s.total - s.done
unfolding answered halted blocks_in
turned-most s image plan q = step (case-of s image plan q)
  where
    step : Case s image plan q → (turned s image plan q).blocks ≤ s.total - s.done
    step (stops r e) = rw e (omega arith)
    step (goes e) = rw e (omega arith)

-- its fields
module _ (s t : Progress) (image plan : List ℕ) (n : ℕ) (e : t ≡ ran s image plan n) where
  ran-hash : t.hash ≡ folded (next_block image plan s.total) s.hash s.done n
  unfolding ran
  ran-hash = ap (λ (r : Progress). r.hash) e

  ran-done : t.done ≡ s.done + n
  unfolding ran
  ran-done = ap (λ (r : Progress). r.done) e

  ran-total : t.total ≡ s.total
  unfolding ran
  ran-total = ap (λ (r : Progress). r.total) e

  ran-image : t.image ≡ s.image
  unfolding ran
  ran-image = ap (λ (r : Progress). r.image) e

  ran-plan : t.plan ≡ s.plan
  unfolding ran
  ran-plan = ap (λ (r : Progress). r.plan) e

  ran-refusal : t.refusal ≡ s.refusal
  unfolding ran
  ran-refusal = ap (λ (r : Progress). r.refusal) e

-- what a turn's answer tells of the counts, as a caller who turns in a loop needs it
pub turn-counts : (s : Progress) (image plan : List ℕ) (q : ℕ) (t : Turned) → t ≡ turned s image plan q
    → (t.next.done ≡ s.done + t.blocks) × (t.next.total ≡ s.total) × (t.blocks ≤ s.total - s.done)
turn-counts s image plan q t e =
    let u : Turned = turned s image plan q in
    let r = turned-ran s image plan q in
    rw e (ran-done s u.next image plan u.blocks r, ran-total s u.next image plan u.blocks r, turned-most s image plan q)

-- a member of two lists is one of either
either-of : (bs cs : List (List ℕ)) (b : List ℕ) → (Memᴰ b bs → length b ≡ 128) → (Memᴰ b cs → length b ≡ 128)
    → Memᴰ b (bs ++ cs) → length b ≡ 128
either-of bs cs b h k m = by_place (Memᴰ.append_cases bs m)
  where
    by_place : Memᴰ b bs ⊎ Memᴰ b cs → length b ≡ 128
    by_place (inl i) = h i
    by_place (inr j) = k j

-- ---- THE THEOREM: after any turns, from any state on

pub held : (s : Progress) (ls : List Lent) → Held s ls
unfolding after_turns reported reported_blocks joined
held s [] =
    record {
      hash = after_none s.hash [];
      blocks = λ b m. absurd (Memᴰ.not-nil m);
      count = refl;
      done = sym (add-zero s.done);
      total = refl;
      image = refl;
      plan = refl;
      refusal = refl;
    }
held s (l ∷ ls) =
    let t : Progress = (turn_of s l).next in
    let n : ℕ = (turn_of s l).blocks in
    let e : t ≡ ran s l.image l.plan n = turned-ran s l.image l.plan l.quota in
    let f : ℕ → List ℕ = next_block l.image l.plan s.total in
    let whole : (i : ℕ) → length (f i) ≡ 128 = next-length l.image l.plan s.total in
    let bs : List (List ℕ) = up_to (λ i. f (s.done + i)) n in
    let cs : List (List ℕ) = reported_blocks t ls in
    let own : Blocks bs × (length bs ≡ n) = taken f whole s.done n in
    let rest : Held t ls = held t ls in
    record {
      hash =
          rest.hash
          ∙ ap (λ (r : State). after r (joined cs) (reported t ls)) (ran-hash s t l.image l.plan n e ∙ folded-taken f whole s.hash s.done n)
          ∙ sym (after-right s.hash (joined bs) (joined cs) n (reported t ls) (joined_length bs own.0 ∙ ap (λ (k : ℕ). 128 * k) own.1))
          ∙ ap (λ (m : List ℕ). after s.hash m (n + reported t ls)) (sym (joined-append bs cs));
      blocks = λ b m. either-of bs cs b (blocks-each bs own.0 b) (rest.blocks b) m;
      count = length-append bs cs ∙ omega (arith, own.1, rest.count);
      done = rest.done ∙ omega (arith, ran-done s t l.image l.plan n e);
      total = rest.total ∙ ran-total s t l.image l.plan n e;
      image = rest.image ∙ ran-image s t l.image l.plan n e;
      plan = rest.plan ∙ ran-plan s t l.image l.plan n e;
      refusal = rest.refusal ∙ ran-refusal s t l.image l.plan n e;
    }
