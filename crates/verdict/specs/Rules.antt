-- Page 01, "Order of the rules": a row of rules, and the first that is broken. Assumes nothing.
use Rattle.std.specs.Prelude.{◌≡◌, Bool, true, false, ℕ, ◌≤◌, Result, Ok, Err}
use mathlib.Core.List.{List, [], ◌∷◌, Memᴰ}
use Rattle.verdict.specs.declared.Place.{Place}
use Rattle.verdict.specs.declared.Refusal.{Refusal}
use Rattle.verdict.specs.Refusal.{refusal_of}

-- a rule: the number that the page gives it, the place that it is tried at, and whether it is broken there
pub record Rule : Type 0 where
  pub number : ℕ
  pub place : Place
  pub broken : Bool

abbrev pub rule : ℕ → Place → Bool → Rule
rule n p b = record { number = n; place = p; broken = b }

abbrev pub pick : {A : Type 0} → Bool → A → A → A
pick true a b = a
pick false a b = b

-- what a row of rules comes to: all are kept, or the refusal of the first that is broken
abbrev pub Verdict : Type 0
Verdict = Result (Unit {0}) Refusal

-- "The launch stops at the first broken rule and answers it"
unfoldable pub judge : List Rule → Verdict
judge [] = Ok tt
judge (r ∷ rs) = let rest = judge rs in pick r.broken (Err (refusal_of r.number r.place)) rest

-- no rule of the row is broken
abbrev pub Kept : List Rule → Type 0
Kept rs = (r : Rule) → Memᴰ r rs → r.broken ≡ false

-- each rule of the row has one of the page's numbers
abbrev pub Numbered : List Rule → Type 0
Numbered rs = (r : Rule) → Memᴰ r rs → (1 ≤ r.number) × (r.number ≤ 19)
