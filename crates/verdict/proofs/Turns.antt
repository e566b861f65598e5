-- Lists that are made in turn: one turn more, the first of them, their lengths, elements and members. Assumes nothing.
use mathlib.Core.Path.{◌≡◌, refl, sym, ap, subst, ◌∙◌}
use mathlib.Core.Logic.{◌⊎◌, inl, inr}
use mathlib.Core.List.Memᴰ
use mathlib.Core.List.{List, [], ◌∷◌, ◌++◌, map, append_assoc, append-nil, map-append, Memᴰ}
use Prim.Native.Nat.{ℕ, zero, suc, ◌+◌, ◌-◌, ◌*◌, ◌<◌}
use native.Mathlib.Nat.{add-zero, add-suc}
use native.Mathlib.Numerals.{add-one}
use native.Mathlib.Omega.{arith}
use lib.ListN.{length, get_or, length-append, get_or-append}
use lib.Seq.{get_or-append-add}
use Rattle.verdict.specs.Turns.{in_turn, up_to}

module _ {A : Type 0} where
  -- ---- one turn more, and some turns more

  pub turn-none : (f : ℕ → List A) → in_turn f 0 ≡ []
  unfolding in_turn
  turn-none f = refl

  pub turn_more : (f : ℕ → List A) (n : ℕ) → in_turn f (n + 1) ≡ in_turn f n ++ f n
  unfolding in_turn
  turn_more f n = rw (add-one n)

  pub up_to-none : (f : ℕ → A) → up_to f 0 ≡ []
  up_to-none f = turn-none (λ i. f i ∷ [])

  pub up_to-more : (f : ℕ → A) (n : ℕ) → up_to f (n + 1) ≡ up_to f n ++ (f n ∷ [])
  up_to-more f n = turn_more (λ i. f i ∷ []) n

  -- the first turns, then the others
  pub turn-add : (f : ℕ → List A) (n m : ℕ) → in_turn f (n + m) ≡ in_turn f n ++ in_turn (λ i. f (n + i)) m
  unfolding in_turn
  turn-add f n zero = rw (add-zero n) (sym (append-nil (in_turn f n)))
  turn-add f n (suc m) = rw (add-suc n m, turn-add f n m) (append_assoc (in_turn f n) (in_turn (λ i. f (n + i)) m) (f (n + m)))

  -- the turns before a turn, that turn, and those behind it
  pub turn-split : (f : ℕ → List A) (i n : ℕ) → i < n → in_turn f n ≡ in_turn f i ++ f i ++ in_turn (λ j. f (i + 1 + j)) (n - (i + 1))
  turn-split f i n h =
      let e : n ≡ i + 1 + (n - (i + 1)) = omega arith in
      ap (in_turn f) e
      ∙ turn-add f (i + 1) (n - (i + 1))
      ∙ ap (λ (l : List A). l ++ in_turn (λ j. f (i + 1 + j)) (n - (i + 1))) (turn_more f i)

  -- turns that make the same make the same list
  pub turn-same : (f g : ℕ → List A) (n : ℕ) → ((i : ℕ) → i < n → f i ≡ g i) → in_turn f n ≡ in_turn g n
  unfolding in_turn
  turn-same f g zero h = refl
  turn-same f g (suc n) h = rw (turn-same f g n (λ i l. h i (omega arith)), h n (omega arith))

  -- ---- lengths

  pub length_more : (f : ℕ → List A) (n : ℕ) → length (in_turn f (n + 1)) ≡ length (in_turn f n) + length (f n)
  length_more f n = ap length (turn_more f n) ∙ length-append (in_turn f n) (f n)

  -- where each turn makes a list of k elements
  pub length-turn : (f : ℕ → List A) (k n : ℕ) → ((i : ℕ) → length (f i) ≡ k) → length (in_turn f n) ≡ k * n
  unfolding in_turn
  length-turn f k zero h = omega arith
  length-turn f k (suc n) h = length-append (in_turn f n) (f n) ∙ omega (arith, h n, length-turn f k n h)

  pub length-up_to : (f : ℕ → A) (n : ℕ) → length (up_to f n) ≡ n
  length-up_to f n = length-turn (λ i. f i ∷ []) 1 n (λ i. refl) ∙ omega arith

  -- ---- elements

  -- where each turn makes a list of k elements, element j of turn i
  pub get_or-turn : (f : ℕ → List A) (k n i j : ℕ) (d : A) → ((m : ℕ) → length (f m) ≡ k) → i < n → j < k
      → get_or (in_turn f n) (k * i + j) d ≡ get_or (f i) j d
  get_or-turn f k n i j d h l b =
      let rest : List A = in_turn (λ m. f (i + 1 + m)) (n - (i + 1)) in
      let before : length (in_turn f i) ≡ k * i = length-turn f k i h in
      ap (λ (s : List A). get_or s (k * i + j) d) (turn-split f i n l)
      ∙ get_or-append (in_turn f i ++ f i) rest d (k * i + j) (omega (arith, length-append (in_turn f i) (f i), h i))
      ∙ ap (λ (m : ℕ). get_or (in_turn f i ++ f i) (m + j) d) (sym before)
      ∙ get_or-append-add (in_turn f i) (f i) j d

  pub get_or-up_to : (f : ℕ → A) (n i : ℕ) (d : A) → i < n → get_or (up_to f n) i d ≡ f i
  get_or-up_to f n i d h =
      let e : i ≡ 1 * i + 0 = omega arith in
      ap (λ (m : ℕ). get_or (up_to f n) m d) e ∙ get_or-turn (λ m. f m ∷ []) 1 n i 0 d (λ m. refl) h (omega arith)

  -- ---- members

  -- what is in the whole is in one of the turns
  pub turn-of : {a : A} (f : ℕ → List A) (n : ℕ) → Memᴰ a (in_turn f n) → (i : ℕ) × (i < n) × Memᴰ a (f i)
  unfolding in_turn
  turn-of f zero m = absurd (Memᴰ.not-nil m)
  turn-of {a} f (suc n) m = step (λ (l : Memᴰ a (in_turn f n)). turn-of f n l) (Memᴰ.append_cases (in_turn f n) m)
    where
      step : (Memᴰ a (in_turn f n) → (i : ℕ) × (i < n) × Memᴰ a (f i)) → Memᴰ a (in_turn f n) ⊎ Memᴰ a (f n) → (i : ℕ) × (i < suc n) × Memᴰ a (f i)
      step below (inl l) = let t : (i : ℕ) × (i < n) × Memᴰ a (f i) = below l in (t.0, omega arith, t.2)
      step below (inr l) = (n, omega arith, l)

  -- and what is in one of the turns is in the whole
  pub in-turn : {a : A} (f : ℕ → List A) (n i : ℕ) → i < n → Memᴰ a (f i) → Memᴰ a (in_turn f n)
  in-turn {a} f n i h m =
      subst (λ (l : List A). Memᴰ a l) (sym (turn-split f i n h))
      (Memᴰ.append_left (in_turn (λ j. f (i + 1 + j)) (n - (i + 1))) (Memᴰ.append_right (in_turn f i) m))

  pub up_to-of : {a : A} (f : ℕ → A) (n : ℕ) → Memᴰ a (up_to f n) → (i : ℕ) × (i < n) × (a ≡ f i)
  up_to-of f n m = let t = turn-of (λ i. f i ∷ []) n m in (t.0, t.1, Memᴰ.eq_of_singleton t.2)

  pub in-up_to : (f : ℕ → A) (n i : ℕ) → i < n → Memᴰ (f i) (up_to f n)
  in-up_to f n i h = in-turn (λ j. f j ∷ []) n i h (Memᴰ.head refl)

-- ---- a function of each element

module _ {A B : Type 0} (g : A → B) where
  pub map-turn : (f : ℕ → List A) (n : ℕ) → map g (in_turn f n) ≡ in_turn (λ i. map g (f i)) n
  unfolding in_turn
  map-turn f zero = refl
  map-turn f (suc n) = map-append g (in_turn f n) (f n) ∙ ap (λ (l : List B). l ++ map g (f n)) (map-turn f n)

  pub map-up_to : (f : ℕ → A) (n : ℕ) → map g (up_to f n) ≡ up_to (λ i. g (f i)) n
  map-up_to f n = map-turn (λ i. f i ∷ []) n
