-- Lists that are made in turn: for 0, then for 1, and so on. The page makes its rules, its plan, its pieces and its stream so.
-- Assumes nothing.
use Rattle.std.specs.Prelude.{ℕ, zero, suc, List, [], ◌∷◌, ◌++◌}

-- f 0, then f 1, and so on, n lists in all, one after the other
unfoldable pub in_turn : {A : Type 0} → (ℕ → List A) → ℕ → List A
in_turn f zero = []
in_turn f (suc n) = in_turn f n ++ f n

-- f 0, f 1, and so on, n in all
abbrev pub up_to : {A : Type 0} → (ℕ → A) → ℕ → List A
up_to f n = in_turn (λ i. f i ∷ []) n
