-- The first fault of a row of rules: one rule more, one row behind another, rows in turn; and the refusal that it is answered
-- with. Assumes nothing.
use mathlib.Core.Path.{◌≡◌, refl, sym, ap, ◌∙◌}
use mathlib.Core.Bool.{Bool, true, false}
use mathlib.Core.List.{List, [], ◌∷◌, ◌++◌, map as each}
use mathlib.Core.Logic.{◌⊎◌, inl, inr}
use Prim.Native.Nat.{ℕ, zero, suc, ◌+◌, ◌-◌, ◌<◌}
use native.Mathlib.Numerals.{add-one}
use native.Mathlib.Omega.{arith}
use Rattle.std.specs.Prelude.{Result, Ok, Err}
use Rattle.verdict.specs.declared.Place.TheVariants.{Nowhere}
use Rattle.verdict.specs.declared.Refusal.TheVariants as refusal
use Rattle.verdict.specs.Refusal.{refusal_of}
use Rattle.verdict.specs.Rules.{pick, judge}
use Rattle.verdict.specs.Turns.{in_turn}
use Rattle.verdict.proofs.Turns.{turn-none, turn_more, turn-split}
use Rattle.verdict.proofs.Rules.{either}
use Rattle.memory.specs.declared.Cause.{Cause}
use Rattle.memory.specs.declared.Cause.TheVariants as cause
use Rattle.memory.specs.declared.Fault.{Fault}
use Rattle.memory.specs.Map.{Tried, fault_at, first_fault, cause_number, cause_place, fault_refusal, fault_verdict, as_rule, map_tried, map_rules}

-- ---- one rule more

pub first-none : first_fault [] ≡ Ok tt
unfolding first_fault
first-none = refl

pub first-kept : (t : Tried) (ts : List Tried) → t.broken ≡ false → first_fault (t ∷ ts) ≡ first_fault ts
unfolding first_fault
first-kept t ts e = rw e

pub first-broken : (t : Tried) (ts : List Tried) → t.broken ≡ true → first_fault (t ∷ ts) ≡ Err (fault_at t.cause t.at)
unfolding first_fault
first-broken t ts e = rw e

-- a fault is not kept
pub fault-is : (f : Fault) → ◌≡◌ {A = Result (Unit {0}) Fault} (Err f) (Ok tt) → ⊥
fault-is f e = cc

-- without a fault the first rule is kept, and there is none in the rest
pub first-cons : (t : Tried) (ts : List Tried) → first_fault (t ∷ ts) ≡ Ok tt → (t.broken ≡ false) × (first_fault ts ≡ Ok tt)
first-cons t ts e = step (either t.broken)
  where
    step : (t.broken ≡ true) ⊎ (t.broken ≡ false) → (t.broken ≡ false) × (first_fault ts ≡ Ok tt)
    step (inl b) = absurd (fault-is (fault_at t.cause t.at) (sym (first-broken t ts b) ∙ e))
    step (inr k) = (k, sym (first-kept t ts k) ∙ e)

-- ---- one row behind another

pub first_then : (xs ys : List Tried) → first_fault xs ≡ Ok tt → first_fault (xs ++ ys) ≡ first_fault ys
first_then [] ys e = refl
first_then (t ∷ xs) ys e =
    let both = first-cons t xs e in
    first-kept t (xs ++ ys) both.0 ∙ first_then xs ys both.1

pub first_stops : (xs ys : List Tried) → (first_fault xs ≡ Ok tt → ⊥) → first_fault (xs ++ ys) ≡ first_fault xs
first_stops [] ys h = absurd (h first-none)
first_stops (t ∷ xs) ys h = step (λ (k : first_fault xs ≡ Ok tt → ⊥). first_stops xs ys k) (either t.broken)
  where
    step : ((first_fault xs ≡ Ok tt → ⊥) → first_fault (xs ++ ys) ≡ first_fault xs) → (t.broken ≡ true) ⊎ (t.broken ≡ false) → first_fault (t ∷ (xs ++ ys)) ≡ first_fault (t ∷ xs)
    step below (inl b) = first-broken t (xs ++ ys) b ∙ sym (first-broken t xs b)
    step below (inr k) = first-kept t (xs ++ ys) k ∙ below (λ e. h (first-kept t xs k ∙ e)) ∙ sym (first-kept t xs k)

pub first-left : (xs ys : List Tried) → first_fault (xs ++ ys) ≡ Ok tt → first_fault xs ≡ Ok tt
first-left [] ys e = first-none
first-left (t ∷ xs) ys e =
    let both = first-cons t (xs ++ ys) e in
    first-kept t xs both.0 ∙ first-left xs ys both.1

pub first-right : (xs ys : List Tried) → first_fault (xs ++ ys) ≡ Ok tt → first_fault ys ≡ Ok tt
first-right xs ys e = sym (first_then xs ys (first-left xs ys e)) ∙ e

-- ---- rows in turn

pub turns_next : (f : ℕ → List Tried) (n : ℕ) → first_fault (in_turn f n) ≡ Ok tt → first_fault (in_turn f (n + 1)) ≡ first_fault (f n)
turns_next f n e = ap first_fault (turn_more f n) ∙ first_then (in_turn f n) (f n) e

-- the first turn that has a fault is the answer
pub turns-stop : (f : ℕ → List Tried) (k n : ℕ) → first_fault (in_turn f k) ≡ Ok tt → k < n → (first_fault (f k) ≡ Ok tt → ⊥) → first_fault (in_turn f n) ≡ first_fault (f k)
turns-stop f k n e l h =
    let rest : List Tried = in_turn (λ j. f (k + 1 + j)) (n - (k + 1)) in
    let here : first_fault (in_turn f k ++ f k) ≡ first_fault (f k) = first_then (in_turn f k) (f k) e in
    ap first_fault (turn-split f k n l) ∙ first_stops (in_turn f k ++ f k) rest (λ q. h (sym here ∙ q)) ∙ here

pub turns-each : (f : ℕ → List Tried) (n i : ℕ) → first_fault (in_turn f n) ≡ Ok tt → i < n → first_fault (f i) ≡ Ok tt
turns-each f n i e l =
    let rest : List Tried = in_turn (λ j. f (i + 1 + j)) (n - (i + 1)) in
    first-right (in_turn f i) (f i) (first-left (in_turn f i ++ f i) rest (sym (ap first_fault (turn-split f i n l)) ∙ e))

pub turns-all : (f : ℕ → List Tried) (n : ℕ) → ((i : ℕ) → i < n → first_fault (f i) ≡ Ok tt) → first_fault (in_turn f n) ≡ Ok tt
turns-all f zero h = ap first_fault (turn-none f) ∙ first-none
turns-all f (suc n) h =
    ap (λ (m : ℕ). first_fault (in_turn f m)) (sym (add-one n))
    ∙ turns_next f n (turns-all f n (λ i l. h i (omega arith)))
    ∙ h n (omega arith)

-- ---- the refusal

-- every fault is answered as rule 4, with no place
pub fault_answer : (f : Fault) → refusal.Map Nowhere ≡ fault_refusal f
unfolding cause_number cause_place refusal_of fault_refusal
fault_answer f = by f.cause f.«record»
  where
    by : (c : Cause) (i : ℕ) → refusal.Map Nowhere ≡ fault_refusal (fault_at c i)
    by cause.Count i = refl
    by cause.Multiple i = refl
    by cause.End i = refl
    by cause.Kind i = refl
    by cause.Order i = refl

-- the first fault is answered as the first broken rule of the row
pub fault-judged : (ts : List Tried) → fault_verdict (first_fault ts) ≡ judge (each as_rule ts)
unfolding first_fault judge fault_refusal
fault-judged [] = refl
fault-judged (t ∷ ts) = by t.broken (fault-judged ts)
  where
    by : (b : Bool) → fault_verdict (first_fault ts) ≡ judge (each as_rule ts)
        → fault_verdict (pick b (Err (fault_at t.cause t.at)) (first_fault ts))
        ≡ pick b (Err (refusal_of (cause_number t.cause) (cause_place t.cause t.at))) (judge (each as_rule ts))
    by true e = refl
    by false e = e

pub map-judged : (width : ℕ) (map : List ℕ) → fault_verdict (first_fault (map_tried width map)) ≡ judge (map_rules width map)
unfolding map_rules
map-judged width map = fault-judged (map_tried width map)
