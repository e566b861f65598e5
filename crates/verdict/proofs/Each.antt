-- What holds of each member of a list: of one list behind another, and of lists made in turn. Assumes nothing.
use mathlib.Core.Path.{◌≡◌, refl, sym, subst}
use mathlib.Core.Logic.{◌↔◌, ⊎_elim}
use mathlib.Core.List.Memᴰ
use mathlib.Core.List.{List, [], ◌∷◌, ◌++◌, Memᴰ}
use Prim.Native.Nat.{ℕ, ◌<◌}
use Rattle.verdict.specs.Turns.{in_turn, up_to}
use Rattle.verdict.proofs.Turns.{turn-of, in-turn, up_to-of, in-up_to}

abbrev pub Each : {A : Type 0} → (A → Type 0) → List A → Type 0
Each {A} P l = (a : A) → Memᴰ a l → P a

module _ {A : Type 0} (P : A → Type 0) where
  pub each_none : Each P []
  each_none a m = absurd (Memᴰ.not-nil m)

  pub each-cons : (x : A) (xs : List A) → Each P (x ∷ xs) ↔ (P x × Each P xs)
  each-cons x xs = (
    λ h. (h x (Memᴰ.head refl), λ a m. h a (Memᴰ.tail m)),
    λ h a m. ⊎_elim (λ (e : a ≡ x). subst P (sym e) h.0) (λ (t : Memᴰ a xs). h.1 a t) (Memᴰ.cases_cons m),
  )

  pub each_append : (xs ys : List A) → Each P (xs ++ ys) ↔ (Each P xs × Each P ys)
  each_append xs ys = (
    λ h. (λ a m. h a (Memᴰ.append_left ys m), λ a m. h a (Memᴰ.append_right xs m)),
    λ h a m. ⊎_elim (λ (l : Memᴰ a xs). h.0 a l) (λ (r : Memᴰ a ys). h.1 a r) (Memᴰ.append_cases xs m),
  )

  pub each_turn : (f : ℕ → List A) (n : ℕ) → Each P (in_turn f n) ↔ ((i : ℕ) → i < n → Each P (f i))
  each_turn f n = (
    λ h i l a m. h a (in-turn f n i l m),
    λ h a m. let t : (i : ℕ) × (i < n) × Memᴰ a (f i) = turn-of f n m in h t.0 t.1 a t.2,
  )

  pub each-up_to : (f : ℕ → A) (n : ℕ) → Each P (up_to f n) ↔ ((i : ℕ) → i < n → P (f i))
  each-up_to f n = (
    λ h i l. h (f i) (in-up_to f n i l),
    λ h a m. let t : (i : ℕ) × (i < n) × (a ≡ f i) = up_to-of f n m in subst P (sym t.2) (h t.0 t.1),
  )
