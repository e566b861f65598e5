-- Writes into a list, `sets` of `lib.Seq`: one after the other, at other places, and what stands in a list after them.
-- Assumes nothing.
use mathlib.Core.Path.{◌≡◌, refl, sym, ap, ◌∙◌}
use Prim.Native.Nat.{ℕ, zero, suc, ◌+◌, ◌-◌, ◌≤◌, ◌<◌}
use native.Mathlib.Nat.{add-zero, add-suc, suc-add, zero-add, sub-zero, suc-sub-suc, zero-sub}
use native.Mathlib.Numerals.{add-one}
use native.Mathlib.Omega.{arith}
use mathlib.Core.List.{List, [], ◌∷◌, ◌++◌, append_assoc, append-nil}
use borrow.Rule.Slice.PartMut.{put_mid}
use lib.ListN.{length, get_or, set, take, drop, replicate, length-set, length-append, length-drop, length-replicate, replicate-append-replicate, take-append-drop}
use Rattle.std.proofs.lemmas.List.{take_all, drop_all}
use lib.Seq.{sets, sets-eq, take-suc, length-take-le, take-set-le, take-set-lt, drop-set-lt, drop-set-add, get_or-set_same, get_or-set_other, set_comm, take-append_seam, drop-drop}

-- the index of the next element, counted from i or from the element behind i
pub across : (i k : ℕ) → i + suc k ≡ suc i + k
across i k = add-suc i k ∙ sym (suc-add i k)

module _ {ℓ} {A : Type ℓ} where
  -- ---- one after the other

  -- a second write right behind the first
  pub sets-append : (l xs ys : List A) (i : ℕ) → sets (sets l i xs) (i + length xs) ys ≡ sets l i (xs ++ ys)
  sets-append l [] ys i = ap (λ (k : ℕ). sets l k ys) (add-zero i)
  sets-append l (x ∷ xs) ys i =
      ap (λ (k : ℕ). sets (sets (set l i x) (suc i) xs) k ys) (across i (length xs)) ∙ sets-append (set l i x) xs ys (suc i)

  -- the same, where the second write's place is known by an equation
  pub sets_then : (l xs ys : List A) (i j : ℕ) → i + length xs ≡ j → sets (sets l i xs) j ys ≡ sets l i (xs ++ ys)
  sets_then l xs ys i j e = ap (λ (k : ℕ). sets (sets l i xs) k ys) (sym e) ∙ sets-append l xs ys i

  -- one element, then the rest
  pub sets-cons : (l ys : List A) (i : ℕ) (y : A) → sets (set l i y) (i + 1) ys ≡ sets l i (y ∷ ys)
  sets-cons l ys i y = ap (λ (k : ℕ). sets (set l i y) k ys) (add-one i)

  -- the next element of a list that is written one element at a time
  pub sets_more : (l ys : List A) (at i : ℕ) (d : A) → i < length ys → set (sets l at (take i ys)) (at + i) (get_or ys i d) ≡ sets l at (take (i + 1) ys)
  sets_more l ys at i d h =
      sets_then l (take i ys) (get_or ys i d ∷ []) at (at + i) (ap (λ (k : ℕ). at + k) (length-take-le i ys (omega arith)))
      ∙ ap (λ (r : List A). sets l at r) (sym (take-suc ys i d h) ∙ ap (λ (k : ℕ). take k ys) (sym (add-one i)))

  -- writes at places apart can be made in either order
  pub set-swap : (l ys : List A) (i j : ℕ) (x : A) → i < j → sets (set l i x) j ys ≡ set (sets l j ys) i x
  set-swap l [] i j x h = refl
  set-swap l (y ∷ ys) i j x h =
      ap (λ (r : List A). sets r (suc j) ys) (set_comm l i j x y (λ e. omega arith)) ∙ set-swap (set l j y) ys i (suc j) x (omega arith)

  pub sets-swap : (l xs ys : List A) (i j : ℕ) → i + length xs ≤ j → sets (sets l i xs) j ys ≡ sets (sets l j ys) i xs
  sets-swap l [] ys i j h = refl
  sets-swap l (x ∷ xs) ys i j h =
      sets-swap (set l i x) xs ys (suc i) j (omega (arith, across i (length xs)))
      ∙ ap (λ (r : List A). sets r (suc i) xs) (set-swap l ys i j x (omega (arith, across i (length xs))))

  -- ---- an element after a write

  pub get_or-sets_before : (l ys : List A) (i j : ℕ) (d : A) → j < i → get_or (sets l i ys) j d ≡ get_or l j d
  get_or-sets_before l [] i j d h = refl
  get_or-sets_before l (y ∷ ys) i j d h =
      get_or-sets_before (set l i y) ys (suc i) j d (omega arith) ∙ get_or-set_other l i j y d (λ e. omega arith)

  pub get_or-sets-after : (l ys : List A) (i j : ℕ) (d : A) → i + length ys ≤ j → get_or (sets l i ys) j d ≡ get_or l j d
  get_or-sets-after l [] i j d h = refl
  get_or-sets-after l (y ∷ ys) i j d h =
      get_or-sets-after (set l i y) ys (suc i) j d (omega (arith, across i (length ys)))
      ∙ get_or-set_other l i j y d (λ e. omega (arith, across i (length ys)))

  pub get_or-sets-inside : (l ys : List A) (i k : ℕ) (d : A) → k < length ys → i + k < length l → get_or (sets l i ys) (i + k) d ≡ get_or ys k d
  get_or-sets-inside l [] i k d h b = absurd (omega arith)
  get_or-sets-inside l (y ∷ ys) i zero d h b =
      ap (λ (j : ℕ). get_or (sets (set l i y) (suc i) ys) j d) (add-zero i)
      ∙ get_or-sets_before (set l i y) ys (suc i) i d (omega arith)
      ∙ get_or-set_same l i y d (omega arith)
  get_or-sets-inside l (y ∷ ys) i (suc k) d h b =
      ap (λ (j : ℕ). get_or (sets (set l i y) (suc i) ys) j d) (across i k)
      ∙ get_or-sets-inside (set l i y) ys (suc i) k d (omega arith) (omega (arith, across i k, length-set l i y))

  -- ---- parts after a write

  pub take-sets-before : (n : ℕ) (l ys : List A) (i : ℕ) → n ≤ i → take n (sets l i ys) ≡ take n l
  take-sets-before n l [] i h = refl
  take-sets-before n l (y ∷ ys) i h = take-sets-before n (set l i y) ys (suc i) (omega arith) ∙ take-set-le n l i y h

  pub take-sets-inside : (n : ℕ) (l ys : List A) (i : ℕ) → i + length ys ≤ n → take n (sets l i ys) ≡ sets (take n l) i ys
  take-sets-inside n l [] i h = refl
  take-sets-inside n l (y ∷ ys) i h =
      take-sets-inside n (set l i y) ys (suc i) (omega (arith, across i (length ys)))
      ∙ ap (λ (r : List A). sets r (suc i) ys) (take-set-lt n l i y (omega (arith, across i (length ys))))

  pub drop-sets-after : (n : ℕ) (l ys : List A) (i : ℕ) → i + length ys ≤ n → drop n (sets l i ys) ≡ drop n l
  drop-sets-after n l [] i h = refl
  drop-sets-after n l (y ∷ ys) i h =
      drop-sets-after n (set l i y) ys (suc i) (omega (arith, across i (length ys)))
      ∙ drop-set-lt n l i y (omega (arith, across i (length ys)))

  pub drop-sets-inside : (n : ℕ) (l ys : List A) (i : ℕ) → drop n (sets l (n + i) ys) ≡ sets (drop n l) i ys
  drop-sets-inside n l [] i = refl
  drop-sets-inside n l (y ∷ ys) i =
      ap (λ (k : ℕ). drop n (sets (set l (n + i) y) k ys)) (sym (add-suc n i))
      ∙ drop-sets-inside n (set l (n + i) y) ys (suc i)
      ∙ ap (λ (r : List A). sets r (suc i) ys) (drop-set-add n l i y)

  -- ---- a write at the front, and the tail that it leaves

  pub sets-front : (l ys : List A) → length ys ≤ length l → sets l 0 ys ≡ ys ++ drop (length ys) l
  sets-front l ys h = sets-eq ys l 0 (omega arith) ∙ ap (λ (k : ℕ). ys ++ drop k l) (zero-add (length ys))

  -- what was written stands there
  pub written : (l ys : List A) (i : ℕ) → i + length ys ≤ length l → take (length ys) (drop i (sets l i ys)) ≡ ys
  written l ys i h =
      ap (λ (k : ℕ). take (length ys) (drop i (sets l k ys))) (sym (add-zero i))
      ∙ ap (λ (r : List A). take (length ys) r) (drop-sets-inside i l ys 0 ∙ sets-front (drop i l) ys (omega (arith, length-drop i l)))
      ∙ take-append_seam ys (drop (length ys) (drop i l))

  -- ---- in a list of one element over and over

  pub drop-replicate : (k n : ℕ) (a : A) → drop k (replicate n a) ≡ replicate (n - k) a
  drop-replicate zero n a = ap (λ (m : ℕ). replicate m a) (sym (sub-zero n))
  drop-replicate (suc k) zero a = ap (λ (m : ℕ). replicate m a) (sym (zero-sub (suc k)))
  drop-replicate (suc k) (suc n) a = drop-replicate k n a ∙ ap (λ (m : ℕ). replicate m a) (sym (suc-sub-suc n k))

  pub sets-replicate : (n : ℕ) (a : A) (ys : List A) → length ys ≤ n → sets (replicate n a) 0 ys ≡ ys ++ replicate (n - length ys) a
  sets-replicate n a ys h =
      sets-front (replicate n a) ys (omega (arith, length-replicate n a))
      ∙ ap (λ (r : List A). ys ++ r) (drop-replicate (length ys) n a)

  -- writing what stands there already changes nothing
  pub sets-gap : (n k : ℕ) (a : A) (ys : List A) → length ys + k ≤ n → sets (replicate n a) 0 ys ≡ sets (replicate n a) 0 (ys ++ replicate k a)
  sets-gap n k a ys h =
      let longer : length (ys ++ replicate k a) ≡ length ys + k = length-append ys (replicate k a) ∙ ap (λ (j : ℕ). length ys + j) (length-replicate k a) in
      let rest : k + (n - length (ys ++ replicate k a)) ≡ n - length ys = omega arith in
      sets-replicate n a ys (omega arith)
      ∙ ap (λ (r : List A). ys ++ r) (ap (λ (j : ℕ). replicate j a) (sym rest) ∙ sym (replicate-append-replicate k (n - length (ys ++ replicate k a)) a))
      ∙ sym (append_assoc ys (replicate k a) (replicate (n - length (ys ++ replicate k a)) a))
      ∙ sym (sets-replicate n a (ys ++ replicate k a) (omega arith))

-- ---- in a part

module _ {A : Type 0} where
  -- a write to a part, as `buffer[at..end].copy_from_slice(bytes)`: std says what it leaves by the three parts
  pub part_sets : (l xs ys : List A) (at k : ℕ) → xs ≡ ys → k ≡ length ys → at + k ≤ length l → put_mid at k l xs ≡ sets l at ys
  part_sets l xs ys at k same size h =
      ap (λ (r : List A). take at l ++ (r ++ drop k (drop at l))) same
      ∙ ap (λ (r : List A). take at l ++ (ys ++ r)) (drop-drop k at l ∙ ap (λ (m : ℕ). drop (at + m) l) size)
      ∙ sym (append_assoc (take at l) ys (drop (at + length ys) l))
      ∙ sym (sets-eq ys l at (omega arith))

  -- a write at the start of what is left from `at` on, as `put(&mut buffer[at..], ..)`
  pub rest_sets : (l xs ys : List A) (at k : ℕ) → xs ≡ sets (take k (drop at l)) 0 ys → at + k ≡ length l → put_mid at k l xs ≡ sets l at ys
  rest_sets l xs ys at k e h =
      let whole : length (drop at l) ≤ k = omega (arith, length-drop at l) in
      let start : at + 0 ≡ at = omega arith in
      ap (λ (r : List A). take at l ++ (xs ++ r)) (drop_all k (drop at l) whole)
      ∙ ap (λ (r : List A). take at l ++ r) (append-nil xs ∙ e ∙ ap (λ (r : List A). sets r 0 ys) (take_all k (drop at l) whole) ∙ sym (drop-sets-inside at l ys 0))
      ∙ ap (λ (i : ℕ). take at l ++ drop at (sets l i ys)) start
      ∙ ap (λ (r : List A). r ++ drop at (sets l at ys)) (sym (take-sets-before at l ys at (omega arith)))
      ∙ take-append-drop at (sets l at ys)
