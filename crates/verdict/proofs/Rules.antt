-- Refusals by number and place, the first of two verdicts, and the verdict on a row of rules: one rule more, one row behind
-- another, and rows in turn. Assumes nothing.
use mathlib.Core.Path.{◌≡◌, refl, sym, ap, ap₂, ◌∙◌}
use mathlib.Core.Bool.{Bool, true, false, false≢true}
use mathlib.Core.Logic.{◌↔◌, ◌⊎◌, inl, inr}
use mathlib.Core.List.{List, [], ◌∷◌, ◌++◌}
use Prim.Native.Nat.{ℕ, zero, suc, ◌+◌, ◌-◌, ◌≤◌, ◌<◌}
use native.Mathlib.Numerals.{add-one}
use native.Mathlib.Omega.{arith}
use lib.Dec.{lit≤}
use lib.ListN.{get_or, replicate, get_or-map}
use Rattle.std.specs.Prelude.{Option, None, Some, Ok, Err, is_ok}
use Rattle.std.specs.Result.{result_and, result_err}
use Rattle.verdict.specs.declared.Place.{Place}
use Rattle.verdict.specs.declared.Refusal.{Refusal}
use Rattle.verdict.specs.declared.Refusal.TheVariants as is
use Rattle.verdict.specs.Refusal.{number, place, refusal_of}
use Rattle.verdict.specs.Rules.{Rule, Verdict, judge}
use Rattle.verdict.specs.Turns.{in_turn}
use Rattle.verdict.proofs.Turns.{turn-none, turn_more, turn-split, get_or-up_to}

-- ---- the table of the refusals: read as one list of numbers, and as one of places

-- a table of one value has it everywhere
everywhere : {A : Type 0} (m i : ℕ) (a : A) → get_or (replicate m a) i a ≡ a
everywhere zero i a = refl
everywhere (suc m) zero a = refl
everywhere (suc m) (suc i) a = everywhere m i a

pub number_of : (n : ℕ) (p : Place) → 1 ≤ n → n ≤ 19 → number (Some (refusal_of n p)) ≡ n
unfolding number refusal_of in_turn
number_of n p l h =
    rw (← get_or-map (λ (c : Place → Refusal). number (Some (c p)))) (get_or-up_to suc 19 (n - 1) 19 (omega arith) ∙ omega arith)

pub place_of : (n : ℕ) (p : Place) → place (Some (refusal_of n p)) ≡ p
unfolding place refusal_of
place_of n p = rw (← get_or-map (λ (c : Place → Refusal). place (Some (c p)))) (everywhere 19 (n - 1) p)

-- its own number and place name each refusal
pub refusal-made : (r : Refusal) → refusal_of (number (Some r)) (place (Some r)) ≡ r
unfolding number place refusal_of
refusal-made (is.Buffers p) = refl
refusal-made (is.Width p) = refl
refusal-made (is.Length p) = refl
refusal-made (is.Map p) = refl
refusal-made (is.Offset p) = refl
refusal-made (is.Signature p) = refl
refusal-made (is.Version p) = refl
refusal-made (is.Descriptor p) = refl
refusal-made (is.Type p) = refl
refusal-made (is.Attributes p) = refl
refusal-made (is.Raw p) = refl
refusal-made (is.Data p) = refl
refusal-made (is.Memory p) = refl
refusal-made (is.Outside p) = refl
refusal-made (is.Shared p) = refl
refusal-made (is.Boot p) = refl
refusal-made (is.Handoff p) = refl
refusal-made (is.Pages p) = refl
refusal-made (is.List p) = refl

-- a refusal's number is one of the page's, and not that of nothing
numbered : (r : Refusal) → 1 ≤ number (Some r)
unfolding number
numbered (is.Buffers p) = lit≤ tt
numbered (is.Width p) = lit≤ tt
numbered (is.Length p) = lit≤ tt
numbered (is.Map p) = lit≤ tt
numbered (is.Offset p) = lit≤ tt
numbered (is.Signature p) = lit≤ tt
numbered (is.Version p) = lit≤ tt
numbered (is.Descriptor p) = lit≤ tt
numbered (is.Type p) = lit≤ tt
numbered (is.Attributes p) = lit≤ tt
numbered (is.Raw p) = lit≤ tt
numbered (is.Data p) = lit≤ tt
numbered (is.Memory p) = lit≤ tt
numbered (is.Outside p) = lit≤ tt
numbered (is.Shared p) = lit≤ tt
numbered (is.Boot p) = lit≤ tt
numbered (is.Handoff p) = lit≤ tt
numbered (is.Pages p) = lit≤ tt
numbered (is.List p) = lit≤ tt

none-numbered : (r : Refusal) → number (Some r) ≡ 0 → ⊥
none-numbered r e = let some : 1 ≤ number (Some r) = numbered r in omega arith

pub nothing-number : (r : Option Refusal) → (number r ≡ 0) ↔ (r ≡ None)
unfolding number
nothing-number None = (λ e. refl, λ e. refl)
nothing-number (Some r) = (λ e. absurd (none-numbered r e), λ e. ap number e)

pub some-none : {r : Refusal} → ◌≡◌ {A = Option Refusal} (Some r) None → ⊥
some-none {r} e = none-numbered r ((nothing-number (Some r)).1 e)

pub nothing? : (r : Option Refusal) → Dec (r ≡ None)
nothing? None = yes refl
nothing? (Some r) = no some-none

-- refusals with the same number and place are the same
pub refusal-same : (r s : Option Refusal) → number r ≡ number s → place r ≡ place s → r ≡ s
refusal-same None s e p = sym ((nothing-number s).0 (sym e ∙ (nothing-number None).1 refl))
refusal-same (Some r) None e p = (nothing-number (Some r)).0 (e ∙ (nothing-number None).1 refl)
refusal-same (Some r) (Some s) e p = ap Some (sym (refusal-made r) ∙ ap₂ refusal_of e p ∙ refusal-made s)

-- ---- the first of two verdicts: the second only where the first is kept

-- a refusal is not kept
pub refused-kept : {r : Refusal} → ◌≡◌ {A = Verdict} (Err r) (Ok tt) → ⊥
refused-kept e = cc

pub kept? : (v : Verdict) → Dec (v ≡ Ok tt)
kept? (Ok u) = yes refl
kept? (Err r) = no refused-kept

-- the verdict's test, and its refusal
pub ok-kept : (v : Verdict) → (is_ok v ≡ true) ↔ (v ≡ Ok tt)
ok-kept (Ok u) = (λ e. refl, λ e. refl)
ok-kept (Err r) = (λ e. absurd (false≢true e), λ e. absurd (refused-kept e))

pub none-refused : (v : Verdict) → result_err v ≡ None → v ≡ Ok tt
none-refused (Ok u) e = refl
none-refused (Err r) e = absurd (some-none e)

pub and-refused : (v w : Verdict) → (v ≡ Ok tt → ⊥) → result_and v w ≡ v
and-refused (Ok u) w h = absurd (h refl)
and-refused (Err r) w h = refl

-- all kept is both kept
and-kept : (v w : Verdict) → result_and v w ≡ Ok tt → (v ≡ Ok tt) × (w ≡ Ok tt)
and-kept (Ok u) w e = (refl, e)
and-kept (Err r) w e = absurd (refused-kept e)

-- what a verdict lets through, and the refusal that is in its way
pub and-found : {A : Type 0} (v : Verdict) (a b : A) → result_and v (Ok a) ≡ Ok b → (v ≡ Ok tt) × (a ≡ b)
and-found (Ok u) a b e = (refl, cc)
and-found (Err r) a b e = absurd (let z : ◌≡◌ {A = ℕ} 0 1 = cc in omega arith)

pub and-missed : {A : Type 0} (v : Verdict) (a : A) (r : Refusal) → result_and v (Ok a) ≡ Err r → v ≡ Err r
and-missed (Ok u) a r e = absurd (let z : ◌≡◌ {A = ℕ} 0 1 = cc in omega arith)
and-missed (Err s) a r e = cc

-- ---- one rule more

pub either : (b : Bool) → (b ≡ true) ⊎ (b ≡ false)
either true = inl refl
either false = inr refl

pub judge-none : judge [] ≡ Ok tt
unfolding judge
judge-none = refl

pub judge-kept : (r : Rule) (rs : List Rule) → r.broken ≡ false → judge (r ∷ rs) ≡ judge rs
unfolding judge
judge-kept r rs e = rw e

pub judge-broken : (r : Rule) (rs : List Rule) → r.broken ≡ true → judge (r ∷ rs) ≡ Err (refusal_of r.number r.place)
unfolding judge
judge-broken r rs e = rw e

pub judge-one-kept : (r : Rule) → r.broken ≡ false → judge (r ∷ []) ≡ Ok tt
judge-one-kept r e = judge-kept r [] e ∙ judge-none

pub judge-one-broken : (r : Rule) → r.broken ≡ true → judge (r ∷ []) ≡ Err (refusal_of r.number r.place)
judge-one-broken r e = judge-broken r [] e

-- a broken rule at the front is answered
pub judge-refuses : (r : Rule) (rs : List Rule) → r.broken ≡ true → judge (r ∷ rs) ≡ Ok tt → ⊥
judge-refuses r rs e n = refused-kept (sym (judge-broken r rs e) ∙ n)

-- ---- one row behind another

pub judge-append : (xs ys : List Rule) → judge (xs ++ ys) ≡ result_and (judge xs) (judge ys)
judge-append [] ys = ap (λ (v : Verdict). result_and v (judge ys)) (sym judge-none)
judge-append (r ∷ xs) ys = step (judge-append xs ys) (either r.broken)
  where
    step : judge (xs ++ ys) ≡ result_and (judge xs) (judge ys) → (r.broken ≡ true) ⊎ (r.broken ≡ false) → judge (r ∷ (xs ++ ys)) ≡ result_and (judge (r ∷ xs)) (judge ys)
    step below (inl e) =
        judge-broken r (xs ++ ys) e ∙ sym (judge-broken r xs e) ∙ sym (and-refused (judge (r ∷ xs)) (judge ys) (judge-refuses r xs e))
    step below (inr e) = judge-kept r (xs ++ ys) e ∙ below ∙ ap (λ (v : Verdict). result_and v (judge ys)) (sym (judge-kept r xs e))

pub judge-then : (xs ys : List Rule) → judge xs ≡ Ok tt → judge (xs ++ ys) ≡ judge ys
judge-then xs ys e = judge-append xs ys ∙ ap (λ (v : Verdict). result_and v (judge ys)) e

pub judge-stops : (xs ys : List Rule) → (judge xs ≡ Ok tt → ⊥) → judge (xs ++ ys) ≡ judge xs
judge-stops xs ys h = judge-append xs ys ∙ and-refused (judge xs) (judge ys) h

pub judge-refused : (xs ys : List Rule) (r : Refusal) → judge xs ≡ Err r → judge (xs ++ ys) ≡ Err r
judge-refused xs ys r e = judge-append xs ys ∙ ap (λ (v : Verdict). result_and v (judge ys)) e

pub judge-both : (xs ys : List Rule) → judge (xs ++ ys) ≡ Ok tt → (judge xs ≡ Ok tt) × (judge ys ≡ Ok tt)
judge-both xs ys e = and-kept (judge xs) (judge ys) (sym (judge-append xs ys) ∙ e)

-- ---- rows in turn

pub turns-none : (f : ℕ → List Rule) → judge (in_turn f 0) ≡ Ok tt
turns-none f = ap judge (turn-none f) ∙ judge-none

pub turns_more : (f : ℕ → List Rule) (n : ℕ) → judge (in_turn f n) ≡ Ok tt → judge (in_turn f (n + 1)) ≡ judge (f n)
turns_more f n e = ap judge (turn_more f n) ∙ judge-then (in_turn f n) (f n) e

pub turns_next : (f : ℕ → List Rule) (n : ℕ) → judge (in_turn f n) ≡ Ok tt → judge (f n) ≡ Ok tt → judge (in_turn f (n + 1)) ≡ Ok tt
turns_next f n e h = turns_more f n e ∙ h

-- the first turn that is refused is the answer
pub turns-stop : (f : ℕ → List Rule) (k n : ℕ) → judge (in_turn f k) ≡ Ok tt → k < n → (judge (f k) ≡ Ok tt → ⊥) → judge (in_turn f n) ≡ judge (f k)
turns-stop f k n e l h =
    let rest : List Rule = in_turn (λ j. f (k + 1 + j)) (n - (k + 1)) in
    let here : judge (in_turn f k ++ f k) ≡ judge (f k) = judge-then (in_turn f k) (f k) e in
    ap judge (turn-split f k n l) ∙ judge-stops (in_turn f k ++ f k) rest (λ q. h (sym here ∙ q)) ∙ here

pub turns-each : (f : ℕ → List Rule) (n i : ℕ) → judge (in_turn f n) ≡ Ok tt → i < n → judge (f i) ≡ Ok tt
turns-each f n i e l =
    let rest : List Rule = in_turn (λ j. f (i + 1 + j)) (n - (i + 1)) in
    (judge-both (in_turn f i) (f i) (judge-both (in_turn f i ++ f i) rest (sym (ap judge (turn-split f i n l)) ∙ e)).0).1

pub turns-all : (f : ℕ → List Rule) (n : ℕ) → ((i : ℕ) → i < n → judge (f i) ≡ Ok tt) → judge (in_turn f n) ≡ Ok tt
turns-all f zero h = turns-none f
turns-all f (suc n) h =
    ap (λ (m : ℕ). judge (in_turn f m)) (sym (add-one n))
    ∙ turns_next f n (turns-all f n (λ i l. h i (omega arith))) (h n (omega arith))

-- the first turn that is refused, and that it is the answer
pub record FirstTurn (f : ℕ → List Rule) (n : ℕ) : Type 0 where
  pub turn : ℕ
  pub below : turn < n
  pub passed : judge (in_turn f turn) ≡ Ok tt
  pub refused : judge (f turn) ≡ Ok tt → ⊥
  pub answer : judge (in_turn f n) ≡ judge (f turn)

pub turns-first : (f : ℕ → List Rule) (n : ℕ) → (judge (in_turn f n) ≡ Ok tt → ⊥) → FirstTurn f n
turns-first f zero h = absurd (h (turns-none f))
turns-first f (suc n) h = step (kept? (judge (in_turn f n))) (λ (r : judge (in_turn f n) ≡ Ok tt → ⊥). turns-first f n r)
  where
    found : (k : ℕ) → k < suc n → judge (in_turn f k) ≡ Ok tt → (judge (f k) ≡ Ok tt → ⊥) → FirstTurn f (suc n)
    found k l e r = record { turn = k; below = l; passed = e; refused = r; answer = turns-stop f k (suc n) e l r }

    step : Dec (judge (in_turn f n) ≡ Ok tt) → ((judge (in_turn f n) ≡ Ok tt → ⊥) → FirstTurn f n) → FirstTurn f (suc n)
    step (yes e) first =
        found n (omega arith) e (λ q. h (ap (λ (m : ℕ). judge (in_turn f m)) (sym (add-one n)) ∙ turns_next f n e q))
    step (no r) first = let t : FirstTurn f n = first r in found t.turn (omega arith) t.passed t.refused
