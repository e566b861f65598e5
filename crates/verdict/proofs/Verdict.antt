-- THE THEOREMS of the verdict: a row of rules is accepted exactly if no rule of it is broken, else its first broken rule is
-- answered, with the page's number and place; and what is kept, and numbered, of rows that are joined or made in turn.
-- Assumes nothing.
use mathlib.Core.Path.{◌≡◌, refl, sym, ap, subst, ◌∙◌}
use mathlib.Core.Bool.{Bool, true, false}
use mathlib.Core.Logic.{◌↔◌, ◌⊎◌, inl, inr}
use mathlib.Core.List.{List, [], ◌∷◌, ◌++◌, Memᴰ}
use Prim.Native.Nat.{ℕ, ◌≤◌, ◌<◌}
use Rattle.std.specs.Prelude.{Ok, Err}
use Rattle.std.specs.Result.{result_err}
use Rattle.verdict.specs.declared.Place.{Place}
use Rattle.verdict.specs.Refusal.{number, place, refusal_of}
use Rattle.verdict.specs.Rules.{Rule, Verdict, rule, judge, Kept, Numbered}
use Rattle.verdict.specs.Turns.{in_turn}
use Rattle.verdict.proofs.Each.{each_none, each-cons, each_append, each_turn}
use Rattle.verdict.proofs.Rules.{either, number_of, place_of, refused-kept, judge-none, judge-kept, judge-broken, judge-refuses, judge-then}

-- ---- accepted exactly if no rule is broken

keeps : (rs : List Rule) → judge rs ≡ Ok tt → Kept rs
keeps [] e = each_none _
keeps (r ∷ rs) e = step (λ (n : judge rs ≡ Ok tt). keeps rs n) (either r.broken)
  where
    step : (judge rs ≡ Ok tt → Kept rs) → (r.broken ≡ true) ⊎ (r.broken ≡ false) → Kept (r ∷ rs)
    step below (inl b) = absurd (judge-refuses r rs b e)
    step below (inr k) = (each-cons _ r rs).1 (k, below (sym (judge-kept r rs k) ∙ e))

accepts : (rs : List Rule) → Kept rs → judge rs ≡ Ok tt
accepts [] h = judge-none
accepts (r ∷ rs) h = let both = (each-cons _ r rs).0 h in judge-kept r rs both.0 ∙ accepts rs both.1

pub accepted-exactly : (rs : List Rule) → (judge rs ≡ Ok tt) ↔ Kept rs
accepted-exactly rs = (keeps rs, accepts rs)

-- ---- else the first broken rule is answered

-- a row's first broken rule, and that it is the answer
pub record First (rs : List Rule) : Type 0 where
  pub before : List Rule
  pub first : Rule
  pub after : List Rule
  pub row : rs ≡ before ++ first ∷ after
  pub kept : Kept before
  pub broken : first.broken ≡ true
  pub answer : judge rs ≡ Err (refusal_of first.number first.place)

pub refused-first : (rs : List Rule) → (judge rs ≡ Ok tt → ⊥) → First rs
refused-first [] h = absurd (h judge-none)
refused-first (r ∷ rs) h = step (λ (n : judge rs ≡ Ok tt → ⊥). refused-first rs n) (either r.broken)
  where
    step : ((judge rs ≡ Ok tt → ⊥) → First rs) → (r.broken ≡ true) ⊎ (r.broken ≡ false) → First (r ∷ rs)
    step below (inl b) =
        record { before = []; first = r; after = rs; row = refl; kept = each_none _; broken = b; answer = judge-broken r rs b }
    step below (inr k) =
        let t : First rs = below (λ e. h (judge-kept r rs k ∙ e)) in
        record {
          before = r ∷ t.before;
          first = t.first;
          after = t.after;
          row = ap (λ (l : List Rule). r ∷ l) t.row;
          kept = (each-cons _ r t.before).1 (k, t.kept);
          broken = t.broken;
          answer = judge-kept r rs k ∙ t.answer;
        }

-- the converse: what stands behind a broken rule does not matter, where all before it is kept
pub first-refused : (before : List Rule) (r : Rule) (after : List Rule) → Kept before → r.broken ≡ true
    → judge (before ++ r ∷ after) ≡ Err (refusal_of r.number r.place)
first-refused before r after k b = judge-then before (r ∷ after) (accepts before k) ∙ judge-broken r after b

pub refused-exactly : (rs : List Rule) → (judge rs ≡ Ok tt → ⊥) ↔ First rs
refused-exactly rs = (refused-first rs, λ t e. refused-kept (sym t.answer ∙ e))

-- ---- the answer's number and place are those of the first broken rule

pub record Named (rs : List Rule) (t : First rs) : Type 0 where
  pub low : 1 ≤ t.first.number
  pub high : t.first.number ≤ 19
  pub by_number : number (result_err (judge rs)) ≡ t.first.number
  pub by_place : place (result_err (judge rs)) ≡ t.first.place

pub named : (rs : List Rule) → Numbered rs → (t : First rs) → Named rs t
named rs h t =
    let r : Rule = t.first in
    let m : Memᴰ r rs =
    subst (λ (l : List Rule). Memᴰ r l) (sym t.row) (mathlib.Core.List.Memᴰ.append_right t.before (mathlib.Core.List.Memᴰ.head refl)) in
    record {
      low = (h r m).0;
      high = (h r m).1;
      by_number = ap (λ (v : Verdict). number (result_err v)) t.answer ∙ number_of r.number r.place (h r m).0 (h r m).1;
      by_place = ap (λ (v : Verdict). place (result_err v)) t.answer ∙ place_of r.number r.place;
    }

-- ---- rows that are joined, and rows in turn

pub kept_append : (xs ys : List Rule) → Kept (xs ++ ys) ↔ (Kept xs × Kept ys)
kept_append = each_append _

pub numbered-append : (xs ys : List Rule) → Numbered (xs ++ ys) ↔ (Numbered xs × Numbered ys)
numbered-append = each_append _

pub kept-turns : (f : ℕ → List Rule) (n : ℕ) → Kept (in_turn f n) ↔ ((i : ℕ) → i < n → Kept (f i))
kept-turns = each_turn _

pub numbered-turns : (f : ℕ → List Rule) (n : ℕ) → Numbered (in_turn f n) ↔ ((i : ℕ) → i < n → Numbered (f i))
numbered-turns = each_turn _

-- a row that begins with a rule of the page's
pub numbered-cons : (n : ℕ) (p : Place) (b : Bool) (rs : List Rule) → 1 ≤ n → n ≤ 19 → Numbered rs → Numbered (rule n p b ∷ rs)
numbered-cons n p b rs low high h = (each-cons _ (rule n p b) rs).1 ((low, high), h)
