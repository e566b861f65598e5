-- What lies inside one record of an allowed kind: `inside` in plain facts, `lies`, which names the record, and the first of
-- the records that serves, as `lies_in` finds it. Assumes nothing.
use mathlib.Core.Path.{◌≡◌, refl, sym, ap, subst, ◌∙◌}
use mathlib.Core.Bool.{Bool, true, false, ◌&&◌, true≢false, false≢true}
use mathlib.Core.List.Memᴰ
use mathlib.Core.List.{List, [], ◌∷◌, ◌++◌, Memᴰ}
use mathlib.Core.Logic.{◌↔◌, ◌⊎◌, inl, inr}
use Prim.Native.Nat.{ℕ, zero, suc, ◌+◌, ◌-◌, ◌≤◌, ◌<◌}
use native.Mathlib.Nat.{add-zero}
use native.Mathlib.Numerals.{add-one}
use native.Mathlib.Omega.{arith}
use lib.Dec.{leb}
use lib.ListN.{length}
use Rattle.std.specs.Prelude.{Option, None, Some}
use Rattle.std.specs.Option.{MatchOption}
use Rattle.std.proofs.lemmas.Bool.{leb-true, le-leb, and_parts, false_from_ne_true}
use Rattle.wire.proofs.Sets.{across}
use Rattle.verdict.specs.Turns.{in_turn, up_to}
use Rattle.verdict.proofs.Turns.{up_to-none, up_to-more, turn-split, length-up_to, in-up_to}
use Rattle.verdict.proofs.Rules.{either}
use Rattle.memory.specs.declared.Record.{Record}
use Rattle.memory.specs.Map.{record_at, record_count, records, end, holds, inside, lies}

-- ---- one record

pub holds-meaning : (r : Record) (address size : ℕ) → (holds r address size ≡ true) ↔ ((r.start ≤ address) × (address + size ≤ end r))
unfolding holds
holds-meaning r address size = (
  λ e. let both = and_parts _ _ e in (leb-true _ _ both.0, leb-true _ _ both.1),
  λ h.
      let s : leb r.start address ≡ true = le-leb _ _ h.0 in
      let l : leb (address + size) (end r) ≡ true = le-leb _ _ h.1 in
      rw (s, l),
)

module _ (allowed : ℕ → Bool) (address size : ℕ) where
  -- the record is of an allowed kind and holds the addresses
  abbrev pub fits : Record → Bool
  fits r = allowed r.kind && holds r address size

  -- ---- inside

  pub inside-here : (r : Record) (rs : List Record) → fits r ≡ true → inside allowed (r ∷ rs) address size ≡ true
  unfolding inside
  inside-here r rs e = rw e

  pub inside-there : (r : Record) (rs : List Record) → fits r ≡ false → inside allowed (r ∷ rs) address size ≡ inside allowed rs address size
  unfolding inside
  inside-there r rs e = rw e

  -- ---- lies

  pub lies-here : (r : Record) (rs : List Record) (i : ℕ) → fits r ≡ true → lies allowed (r ∷ rs) i address size ≡ Some i
  unfolding lies
  lies-here r rs i e = rw e

  pub lies-there : (r : Record) (rs : List Record) (i : ℕ) → fits r ≡ false → lies allowed (r ∷ rs) i address size ≡ lies allowed rs (suc i) address size
  unfolding lies
  lies-there r rs i e = rw e

  pub lies-none : (i : ℕ) → lies allowed [] i address size ≡ None
  unfolding lies
  lies-none i = refl

  -- a record that is found is not outside
  pub found-is : (r : Record) (rs : List Record) (i : ℕ) → fits r ≡ true → lies allowed (r ∷ rs) i address size ≡ None → ⊥
  found-is r rs i e o =
      let f : lies allowed (r ∷ rs) i address size ≡ Some i = lies-here r rs i e in
      let z : ◌≡◌ {A = ℕ} 0 1 = cc in omega arith

  -- `lies` finds no record exactly where the addresses are not inside
  pub lies-inside : (rs : List Record) (i : ℕ) → (lies allowed rs i address size ≡ None) ↔ (inside allowed rs address size ≡ false)
  unfolding inside
  lies-inside [] i = (λ e. refl, λ e. lies-none i)
  lies-inside (r ∷ rs) i = step (lies-inside rs (suc i)) (either (fits r))
    where
      step : (lies allowed rs (suc i) address size ≡ None) ↔ (inside allowed rs address size ≡ false) → (fits r ≡ true) ⊎ (fits r ≡ false) → (lies allowed (r ∷ rs) i address size ≡ None) ↔ (inside allowed (r ∷ rs) address size ≡ false)
      step below (inl e) = (λ o. absurd (found-is r rs i e o), λ f. absurd (true≢false (sym (inside-here r rs e) ∙ f)))
      step below (inr e) = (λ o. inside-there r rs e ∙ below.0 (sym (lies-there r rs i e) ∙ o), λ f. lies-there r rs i e ∙ below.1 (sym (inside-there r rs e) ∙ f))

  -- ---- records behind records

  -- where the first hold nothing, the answer is that of the others
  pub lies-past : (xs ys : List Record) (i : ℕ) → lies allowed xs i address size ≡ None → lies allowed (xs ++ ys) i address size ≡ lies allowed ys (i + length xs) address size
  lies-past [] ys i o = ap (λ (n : ℕ). lies allowed ys n address size) (sym (add-zero i))
  lies-past (r ∷ xs) ys i o = step (λ (q : lies allowed xs (suc i) address size ≡ None). lies-past xs ys (suc i) q) (either (fits r))
    where
      step : (lies allowed xs (suc i) address size ≡ None → lies allowed (xs ++ ys) (suc i) address size ≡ lies allowed ys (suc i + length xs) address size) → (fits r ≡ true) ⊎ (fits r ≡ false) → lies allowed (r ∷ (xs ++ ys)) i address size ≡ lies allowed ys (i + suc (length xs)) address size
      step below (inl e) = absurd (found-is r xs i e o)
      step below (inr e) =
          lies-there r (xs ++ ys) i e
          ∙ below (sym (lies-there r xs i e) ∙ o)
          ∙ ap (λ (n : ℕ). lies allowed ys n address size) (sym (across i (length xs)))

  -- what is found among the first is the answer
  pub lies-stays : (xs ys : List Record) (i k : ℕ) → lies allowed xs i address size ≡ Some k → lies allowed (xs ++ ys) i address size ≡ Some k
  lies-stays [] ys i k e =
      let o : lies allowed [] i address size ≡ None = lies-none i in
      let z : ◌≡◌ {A = ℕ} 0 1 = cc in absurd (omega arith)
  lies-stays (r ∷ xs) ys i k e = step (λ (q : lies allowed xs (suc i) address size ≡ Some k). lies-stays xs ys (suc i) k q) (either (fits r))
    where
      step : (lies allowed xs (suc i) address size ≡ Some k → lies allowed (xs ++ ys) (suc i) address size ≡ Some k) → (fits r ≡ true) ⊎ (fits r ≡ false) → lies allowed (r ∷ (xs ++ ys)) i address size ≡ Some k
      step below (inl f) = lies-here r (xs ++ ys) i f ∙ sym (lies-here r xs i f) ∙ e
      step below (inr f) = lies-there r (xs ++ ys) i f ∙ below (sym (lies-there r xs i f) ∙ e)

  -- ---- the records of a map, one by one

  -- none of the first n records holds the addresses
  unfoldable pub Unfound : List ℕ → ℕ → Type 0
  Unfound map n = lies allowed (up_to (record_at map) n) 0 address size ≡ None

  unfound-none : (map : List ℕ) → Unfound map 0
  unfolding Unfound
  unfound-none map = ap (λ (rs : List Record). lies allowed rs 0 address size) (up_to-none (record_at map)) ∙ lies-none 0

  module _ (map : List ℕ) (i : ℕ) (r : Record) (e : r ≡ record_at map i) (u : Unfound map i) where
    -- the answer with one record more is that of the record
    more : lies allowed (up_to (record_at map) (i + 1)) 0 address size ≡ lies allowed (r ∷ []) i address size
    unfolding Unfound
    more =
        let at : 0 + length (up_to (record_at map) i) ≡ i = omega (arith, length-up_to (record_at map) i) in
        ap (λ (rs : List Record). lies allowed rs 0 address size) (up_to-more (record_at map) i)
        ∙ lies-past (up_to (record_at map) i) (record_at map i ∷ []) 0 u
        ∙ ap (λ (n : ℕ). lies allowed (record_at map i ∷ []) n address size) at
        ∙ ap (λ (q : Record). lies allowed (q ∷ []) i address size) (sym e)

    unfound-next : fits r ≡ false → Unfound map (i + 1)
    unfolding Unfound
    unfound-next f = more ∙ lies-there r [] i f ∙ lies-none (suc i)

    found_here : i < record_count map → fits r ≡ true → Some i ≡ lies allowed (records map) 0 address size
    unfolding records
    found_here l f =
        let rest : List Record = in_turn (λ j. record_at map (i + 1 + j) ∷ []) (record_count map - (i + 1)) in
        let split : up_to (record_at map) (record_count map) ≡ up_to (record_at map) (i + 1) ++ rest =
        turn-split (λ j. record_at map j ∷ []) i (record_count map) l
        ∙ ap (λ (rs : List Record). rs ++ rest) (sym (up_to-more (record_at map) i)) in
        sym (ap (λ (rs : List Record). lies allowed rs 0 address size) split
        ∙ lies-stays (up_to (record_at map) (i + 1)) rest 0 i (more ∙ lies-here r [] i f))

  unfound-end : (map : List ℕ) (i : ℕ) → i ≡ record_count map → Unfound map i → None ≡ lies allowed (records map) 0 address size
  unfolding Unfound records
  unfound-end map i e u = sym (ap (λ (n : ℕ). lies allowed (up_to (record_at map) n) 0 address size) (sym e) ∙ u)

  -- where none of the first n records holds the addresses, they are unfound among them
  unfound-all : (map : List ℕ) (n : ℕ) → ((k : ℕ) → 0 ≤ k → k < n → fits (record_at map k) ≡ false) → Unfound map n
  unfound-all map zero h = unfound-none map
  unfound-all map (suc n) h =
      let u : Unfound map n = unfound-all map n (λ k l m. h k l (omega arith)) in
      subst (Unfound map) (add-one n) (unfound-next map n (record_at map n) refl u (h n (omega arith) (omega arith)))

  -- the first record of an allowed kind that holds the addresses is the answer, and where there is none, there is no answer
  pub first-lies : (map : List ℕ) (r : Option ℕ) → MatchOption r ((k : ℕ) → 0 ≤ k → k < record_count map → fits (record_at map k) ≡ false) (λ i. (0 ≤ i) × (i < record_count map) × (fits (record_at map i) ≡ true) × ((k : ℕ) → 0 ≤ k → k < i → fits (record_at map k) ≡ false)) → r ≡ lies allowed (records map) 0 address size
  first-lies map None h = unfound-end map (record_count map) refl (unfound-all map (record_count map) h)
  first-lies map (Some i) h = found_here map i (record_at map i) refl (unfound-all map i h.3) h.1 h.2

-- ---- inside in plain facts

-- a record of the list that is of an allowed kind and that the addresses lie in
pub record Held (allowed : ℕ → Bool) (rs : List Record) (address size : ℕ) : Type 0 where
  pub holder : Record
  pub member : Memᴰ holder rs
  pub kind : allowed holder.kind ≡ true
  pub from : holder.start ≤ address
  pub to : address + size ≤ end holder

module _ (allowed : ℕ → Bool) (address size : ℕ) where
  held-tail : (r : Record) (rs : List Record) → Held allowed rs address size → Held allowed (r ∷ rs) address size
  held-tail r rs h = record { holder = h.holder; member = Memᴰ.tail h.member; kind = h.kind; from = h.from; to = h.to }

  inside-held : (rs : List Record) → inside allowed rs address size ≡ true → Held allowed rs address size
  unfolding inside
  inside-held [] e = absurd (false≢true e)
  inside-held (r ∷ rs) e = step (λ (q : inside allowed rs address size ≡ true). inside-held rs q) (either (fits allowed address size r))
    where
      step : (inside allowed rs address size ≡ true → Held allowed rs address size) → (fits allowed address size r ≡ true) ⊎ (fits allowed address size r ≡ false) → Held allowed (r ∷ rs) address size
      step below (inl f) =
          let both = and_parts (allowed r.kind) (holds r address size) f in
          let there = (holds-meaning r address size).0 both.1 in
          record { holder = r; member = Memᴰ.head refl; kind = both.0; from = there.0; to = there.1 }
      step below (inr f) = held-tail r rs (below (sym (inside-there allowed address size r rs f) ∙ e))

  member-inside : (r : Record) (rs : List Record) → Memᴰ r rs → fits allowed address size r ≡ true → inside allowed rs address size ≡ true
  member-inside r [] m f = absurd (Memᴰ.not-nil m)
  member-inside r (x ∷ rs) m f = step (λ (q : Memᴰ r rs). member-inside r rs q f) (Memᴰ.cases_cons m) (either (fits allowed address size x))
    where
      step : (Memᴰ r rs → inside allowed rs address size ≡ true) → (r ≡ x) ⊎ Memᴰ r rs → (fits allowed address size x ≡ true) ⊎ (fits allowed address size x ≡ false) → inside allowed (x ∷ rs) address size ≡ true
      step below s (inl g) = inside-here allowed address size x rs g
      step below (inl e) (inr g) = absurd (true≢false (sym f ∙ ap (fits allowed address size) e ∙ g))
      step below (inr t) (inr g) = inside-there allowed address size x rs g ∙ below t

  pub inside-meaning : (rs : List Record) → (inside allowed rs address size ≡ true) ↔ Held allowed rs address size
  inside-meaning rs = (
    inside-held rs,
    λ h.
        let there : holds h.holder address size ≡ true = (holds-meaning h.holder address size).1 (h.from, h.to) in
        member-inside h.holder rs h.member (rw (h.kind, there)),
  )

-- ---- the record that `lies` names

-- record k of the map is of an allowed kind, the addresses lie in it, and no record before it is such
pub record FirstIn (allowed : ℕ → Bool) (map : List ℕ) (address size k : ℕ) : Type 0 where
  pub below : k < record_count map
  pub kind : allowed (record_at map k).kind ≡ true
  pub from : (record_at map k).start ≤ address
  pub to : address + size ≤ end (record_at map k)
  pub first : (j : ℕ) → j < k → fits allowed address size (record_at map j) ≡ false

answered : (l : Option ℕ) → (l ≡ None) ⊎ ((k : ℕ) × (l ≡ Some k))
answered None = inl refl
answered (Some k) = inr (k, refl)

in-same : (l : Option ℕ) (i k : ℕ) → l ≡ Some i → l ≡ Some k → i ≡ k
in-same l i k p q = cc

in_is : (l : Option ℕ) (k : ℕ) → l ≡ Some k → l ≡ None → ⊥
in_is l k p q = let z : ◌≡◌ {A = ℕ} 0 1 = cc in omega arith

module _ (allowed : ℕ → Bool) (address size : ℕ) (map : List ℕ) where
  -- the answer on the first n records
  upon : ℕ → Option ℕ
  upon n = lies allowed (up_to (record_at map) n) 0 address size

  -- where none of the first n is named, none of them serves
  outside-each : (n j : ℕ) → upon n ≡ None → j < n → fits allowed address size (record_at map j) ≡ false
  unfolding upon
  outside-each n j o l =
      let rs : List Record = up_to (record_at map) n in
      let none : inside allowed rs address size ≡ false = (lies-inside allowed address size rs 0).0 o in
      false_from_ne_true _ (λ t. true≢false (sym (member-inside allowed address size (record_at map j) rs (in-up_to (record_at map) n j l) t) ∙ none))

  abbrev FirstOf : ℕ → ℕ → Type 0
  FirstOf n k =
      (k < n)
      × (fits allowed address size (record_at map k) ≡ true)
      × ((j : ℕ) → j < k → fits allowed address size (record_at map j) ≡ false)

  first_of : (n k : ℕ) → upon n ≡ Some k → FirstOf n k
  unfolding upon in_turn Unfound
  first_of zero k e = absurd (in_is _ k e (lies-none allowed address size 0))
  first_of (suc n) k e = step (λ (q : upon n ≡ Some k). first_of n k q) (answered (upon n)) (either (fits allowed address size (record_at map n)))
    where
      next : upon n ≡ None → lies allowed (record_at map n ∷ []) n address size ≡ Some k
      next o = sym (more allowed address size map n (record_at map n) refl o) ∙ ap upon (add-one n) ∙ e

      step : (upon n ≡ Some k → FirstOf n k) → (upon n ≡ None) ⊎ ((i : ℕ) × (upon n ≡ Some i)) → (fits allowed address size (record_at map n) ≡ true) ⊎ (fits allowed address size (record_at map n) ≡ false) → FirstOf (suc n) k
      step below (inr t) f =
          let stays : upon (suc n) ≡ Some t.0 = lies-stays allowed address size (up_to (record_at map) n) (record_at map n ∷ []) 0 t.0 t.1 in
          let same : t.0 ≡ k = in-same (upon (suc n)) t.0 k stays e in
          let b : FirstOf n k = below (t.1 ∙ ap Some same) in
          (omega arith, b.1, b.2)
      step below (inl o) (inl f) =
          let same : n ≡ k = in-same _ n k (lies-here allowed address size (record_at map n) [] n f) (next o) in
          (omega arith, subst (λ (i : ℕ). fits allowed address size (record_at map i) ≡ true) same f, λ j l. outside-each n j o (omega arith))
      step below (inl o) (inr f) =
          absurd (in_is _ k (next o) (lies-there allowed address size (record_at map n) [] n f ∙ lies-none allowed address size (suc n)))

  pub lies-names : (k : ℕ) → lies allowed (records map) 0 address size ≡ Some k → FirstIn allowed map address size k
  unfolding records upon
  lies-names k e =
      let t : FirstOf (record_count map) k = first_of (record_count map) k e in
      let both = and_parts (allowed (record_at map k).kind) (holds (record_at map k) address size) t.1 in
      let there = (holds-meaning (record_at map k) address size).0 both.1 in
      record { below = t.0; kind = both.0; from = there.0; to = there.1; first = t.2 }
