-- The sections of a table from a place on: the next one and those behind it, and none from the end on. Assumes nothing.
use mathlib.Core.Path.{◌≡◌, sym, ap, subst, ◌∙◌}
use mathlib.Core.List.{[], ◌∷◌}
use Prim.Native.Nat.{ℕ, suc, ◌+◌, ◌≤◌, ◌<◌}
use native.Mathlib.Numerals.{add-one}
use native.Mathlib.Omega.{arith}
use lib.ListN.{drop}
use lib.Seq.{drop-cons}
use Rattle.std.specs.List.{All}
use Rattle.std.proofs.lemmas.List.{drop_all}
use Rattle.verdict.specs.Turns.{up_to}
use Rattle.verdict.proofs.Turns.{length-up_to, get_or-up_to}

module _ {A : Type 0} (f : ℕ → A) (n : ℕ) where
  pub rest-none : (k : ℕ) → n ≤ k → drop k (up_to f n) ≡ []
  rest-none k h = drop_all k (up_to f n) (omega (arith, length-up_to f n))

  pub rest_more : (k : ℕ) → k < n → drop k (up_to f n) ≡ f k ∷ drop (k + 1) (up_to f n)
  rest_more k h =
      rw add-one
      (drop-cons (up_to f n) k (f k) (omega (arith, length-up_to f n))
      ∙ ap (λ (a : A). a ∷ drop (suc k) (up_to f n)) (get_or-up_to f n k (f k) h))

-- what holds of each section holds of all
pub all-up_to : {A : Type 0} (P : A → Type 0) (f : ℕ → A) (n : ℕ) → ((k : ℕ) → k < n → P (f k)) → All P (up_to f n)
all-up_to P f n h k d l =
    let b : k < n = omega (arith, length-up_to f n) in
    subst P (sym (get_or-up_to f n k d b)) (h k b)
