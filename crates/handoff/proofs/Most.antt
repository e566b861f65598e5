-- "At most 128 pieces arise, so 6,208 bytes suffice": where each section has a size and each record starts at or after the end of the one before,
-- there are at most as many pieces as records and twice the sections. Each piece is paid for by a section that starts in what is cut. Assumes nothing.
use mathlib.Core.Path.{◌≡◌, refl, sym, ap, subst, ◌∙◌}
use mathlib.Core.Bool.{Bool, true, false, ◌&&◌}
use mathlib.Core.Logic.{◌⊎◌, inl, inr}
use mathlib.Core.List.Memᴰ
use mathlib.Core.List.{List, [], ◌∷◌, ◌++◌, Memᴰ}
use Prim.Native.Nat.{ℕ, zero, suc, ◌+◌, ◌-◌, ◌*◌, ◌≤◌, ◌<◌}
use native.Mathlib.Omega.{arith}
use lib.Dec.{leb, ltb}
use lib.ListN.{length, length-append}
use borrow.Author.Tests.{le-leb, lt-leb, leb-true, leb-false, ltb-true, ltb-false}
use Rattle.verdict.specs.Rules.{pick}
use Rattle.verdict.specs.Turns.{in_turn, up_to}
use Rattle.verdict.proofs.Turns.{up_to-none, length-up_to}
use Rattle.verdict.proofs.Each.{Each, each-up_to}
use Rattle.memory.specs.declared.Record.{Record}
use Rattle.memory.specs.Map.{record_at, record_count, records, end, end_before}
use Rattle.tdvf.specs.declared.Section.{Section}
use Rattle.tdvf.specs.Section.{how_many}
use Rattle.handoff.specs.declared.Next.{Next}
use Rattle.handoff.specs.declared.Piece.{Piece}
use Rattle.handoff.specs.Pieces.{section_piece, run_piece, lower_of, next_of, piece_at, cut, most_pieces, pieces_of, pieces}
use Rattle.handoff.specs.List.{list_length}
use Rattle.handoff.proofs.Cut.{next_low, next-high, piece-section, piece-run, cut-none, cut-end}
use Rattle.handoff.proofs.Count.{of_none, of-ram, of-firmware, of-mapped}
use Rattle.handoff.proofs.Size.{list-most}

pub le-or-lt : (a b : ℕ) → (a ≤ b) ⊎ (b < a)
le-or-lt a b = by (leb a b) refl
  where
    by : (t : Bool) → leb a b ≡ t → (a ≤ b) ⊎ (b < a)
    by true e = inl (leb-true a b e)
    by false e = inr (leb-false a b e)

-- ---- how many sections start at an address or above

abbrev pub from : List Section → ℕ → ℕ
from ss x = how_many (λ s. leb x s.address) ss

module _ (s : Section) (ss : List Section) (x : ℕ) where
  pub from-yes : x ≤ s.address → from (s ∷ ss) x ≡ suc (from ss x)
  unfolding how_many
  from-yes h = rw (le-leb x s.address h)

  pub from-no : s.address < x → from (s ∷ ss) x ≡ from ss x
  unfolding how_many
  from-no h = rw (lt-leb x s.address h)

pub from-none : (x : ℕ) → from [] x ≡ 0
unfolding how_many
from-none x = refl

pub from-most : (ss : List Section) (x : ℕ) → from ss x ≤ length ss
from-most [] x = omega (arith, from-none x)
from-most (s ∷ ss) x =
    let below : from ss x ≤ length ss = from-most ss x in
    elim (le-or-lt x s.address) [ inl h ↦ omega (arith, from-yes s ss x h) | inr h ↦ omega (arith, from-no s ss x h) ]

-- from a higher address on there are no more
pub from-falls : (ss : List Section) (x y : ℕ) → x ≤ y → from ss y ≤ from ss x
from-falls [] x y l = omega (arith, from-none x, from-none y)
from-falls (s ∷ ss) x y l =
    let below : from ss y ≤ from ss x = from-falls ss x y l in
    elim (le-or-lt y s.address) [
      | inl h ↦ omega (arith, from-yes s ss y h, from-yes s ss x (omega arith))
      | inr h ↦ elim (le-or-lt x s.address) [ inl k ↦ omega (arith, from-no s ss y h, from-yes s ss x k) | inr k ↦ omega (arith, from-no s ss y h, from-no s ss x k) ]
    ]

-- and fewer past a section's start
pub from_past : (ss : List Section) (s : Section) → Memᴰ s ss → from ss (s.address + 1) < from ss s.address
from_past [] s m = absurd (Memᴰ.not-nil m)
from_past (t ∷ ss) s m =
    let x : ℕ = s.address in
    elim (Memᴰ.cases_cons m) [
      | inl e ↦
          let here : x ≡ t.address = ap (λ (u : Section). u.address) e in
          omega (arith, from-no t ss (x + 1) (omega arith), from-yes t ss x (omega arith), from-falls ss x (x + 1) (omega arith))
      | inr k ↦
          let below : from ss (x + 1) < from ss x = from_past ss s k in
          elim (le-or-lt (x + 1) t.address) [
            | inl h ↦ omega (arith, from-yes t ss (x + 1) h, from-yes t ss x (omega arith))
            | inr h ↦ elim (le-or-lt x t.address) [ inl l ↦ omega (arith, from-no t ss (x + 1) h, from-yes t ss x l) | inr l ↦ omega (arith, from-no t ss (x + 1) h, from-no t ss x l) ]
          ]
    ]

-- ---- the next section

-- the section is the lower, or it starts below `at`, or not below the other
lower-is : (next : Next) (s : Section) (at : ℕ)
    → ((at ≤ s.address) × (s.address < next.start) × (lower_of next s at ≡ record { start = s.address; size = s.size }))
    ⊎ (((s.address < at) ⊎ (next.start ≤ s.address)) × (lower_of next s at ≡ next))
unfolding lower_of
lower-is next s at = by (leb at s.address) (ltb s.address next.start) refl refl
  where
    by : (b d : Bool) → leb at s.address ≡ b → ltb s.address next.start ≡ d
        → ((at ≤ s.address) × (s.address < next.start) × (pick (b && d) (record { start = s.address; size = s.size }) next ≡ record { start = s.address; size = s.size }))
        ⊎ (((s.address < at) ⊎ (next.start ≤ s.address)) × (pick (b && d) (record { start = s.address; size = s.size }) next ≡ next))
    by true true e f = inl (leb-true at s.address e, ltb-true s.address next.start f, refl)
    by true false e f = inr (inr (ltb-false s.address next.start f), refl)
    by false d e f = inr (inl (leb-false at s.address e), refl)

-- no section starts between `at` and the next start
pub next-least : (ss : List Section) (at top : ℕ) → at ≤ top → from ss (next_of ss at top).start ≡ from ss at
unfolding next_of
next-least [] at top l = omega (arith, from-none at, from-none top)
next-least (s ∷ ss) at top l =
    let n : Next = next_of ss at top in
    let low : at ≤ n.start = next_low ss at top l in
    let below : from ss n.start ≡ from ss at = next-least ss at top l in
    elim (lower-is n s at) [
      | inl h ↦
          rw h.2 (omega (arith, from-yes s ss s.address (omega arith), from-yes s ss at h.0, from-falls ss at s.address h.0, from-falls ss s.address n.start (omega arith)))
      | inr h ↦ rw h.1 (elim h.0 [
        | inl k ↦ omega (arith, from-no s ss at k, from-no s ss n.start (omega arith))
        | inr k ↦ omega (arith, from-yes s ss at (omega arith), from-yes s ss n.start k)
      ])
    ]

-- a section starts where the next start is, with that size
pub record Found (ss : List Section) (next : Next) : Type 0 where
  pub section : Section
  pub among : Memᴰ section ss
  pub starts : section.address ≡ next.start
  pub sized : section.size ≡ next.size

-- so it is wherever the next start is below `top`
pub next-is : (ss : List Section) (at top : ℕ) → (next_of ss at top).start < top → Found ss (next_of ss at top)
unfolding next_of
next-is [] at top l = absurd (omega arith)
next-is (s ∷ ss) at top l =
    elim (lower-is (next_of ss at top) s at) [
      | inl h ↦ record { section = s; among = Memᴰ.head refl; starts = rw h.2; sized = rw h.2 }
      | inr h ↦
          let f : Found ss (next_of ss at top) = next-is ss at top (rw h.1 at l) in
          rw h.1 (record { section = f.section; among = Memᴰ.tail f.among; starts = f.starts; sized = f.sized })
    ]

-- ---- the piece at `at`

-- it is a section's that starts there
pub record IsSection (ss : List Section) (at top : ℕ) : Type 0 where
  pub section : Section
  pub among : Memᴰ section ss
  pub here : section.address ≡ at
  pub is : piece_at ss at top ≡ section_piece at section.size

-- or it is a run, in which no section starts, up to `top` or to where a section starts
pub record IsRun (ss : List Section) (at top : ℕ) : Type 0 where
  pub until : ℕ
  pub above : at < until
  pub below : until ≤ top
  pub is : piece_at ss at top ≡ run_piece at (until - at)
  pub free : from ss until ≡ from ss at
  pub longest : until < top → (s : Section) × Memᴰ s ss × (s.address ≡ until)

pub piece_is : (ss : List Section) (at top : ℕ) → at < top → IsSection ss at top ⊎ IsRun ss at top
piece_is ss at top l =
    let n : Next = next_of ss at top in
    let low : at ≤ n.start = next_low ss at top (omega arith) in
    elim (le-or-lt n.start at) [
      | inl h ↦
          let e : n.start ≡ at = omega arith in
          let f : Found ss n = next-is ss at top (omega arith) in
          inl (record {
            section = f.section;
            among = f.among;
            here = f.starts ∙ e;
            is = sym (piece-section ss at top n refl e) ∙ ap (λ (z : ℕ). section_piece at z) (sym f.sized);
          })
      | inr h ↦ inr (record {
        until = n.start;
        above = h;
        below = next-high ss at top;
        is = sym (piece-run ss at top n refl (λ e. omega arith));
        free = next-least ss at top (omega arith);
        longest = λ b. let f : Found ss n = next-is ss at top b in (f.section, f.among, f.starts);
      })
    ]

-- then come those behind it
pub cut_step : (steps : ℕ) (ss : List Section) (at top : ℕ) → at < top
    → cut (suc steps) ss at top ≡ piece_at ss at top ∷ cut steps ss (at + (piece_at ss at top).length) top
unfolding cut
cut_step steps ss at top h = rw (lt-leb top at h)

-- ---- how many pieces there can be from `at` on

module _ (ss : List Section) (top : ℕ) where
  -- two for each section that starts from `at` on and below `top`, and one more where no section starts at `at`
  pub room : ℕ → ℕ
  room at = pick (leb top at) 0 (1 + from ss at + from ss (at + 1) - 2 * from ss top)

  room-end : (at : ℕ) → top ≤ at → room at ≡ 0
  unfolding room
  room-end at h = rw (le-leb top at h)

  room-is : (at : ℕ) → at < top → room at + 2 * from ss top ≡ 1 + from ss at + from ss (at + 1)
  unfolding room
  room-is at h = rw (lt-leb top at h) (omega (arith, from-falls ss at (at + 1) (omega arith), from-falls ss (at + 1) top (omega arith)))

  pub room_most : (at : ℕ) → at ≤ top → room at + 2 * from ss top ≤ 1 + 2 * from ss at
  room_most at h =
      elim (le-or-lt top at) [
        | inl k ↦ omega (arith, room-end at k, from-falls ss at top h)
        | inr k ↦ omega (arith, room-is at k, from-falls ss at (at + 1) (omega arith))
      ]

  -- past a place where a section starts there is less
  room-past : (at y : ℕ) (s : Section) → Memᴰ s ss → s.address ≡ at → at < top → at < y → room y < room at
  room-past at y s m e l h =
      let less : from ss (at + 1) < from ss at = rw e at (from_past ss s m) in
      elim (le-or-lt top y) [
        | inl k ↦ omega (arith, room-end y k, room-is at l, from-falls ss (at + 1) top (omega arith))
        | inr k ↦ omega (arith, room-is y k, room-is at l, from-falls ss (at + 1) y (omega arith), from-falls ss y (y + 1) (omega arith))
      ]

  -- no piece is empty, where no section is
  pub piece-some : Each (λ s. 0 < s.size) ss → (at : ℕ) → at < top → 0 < (piece_at ss at top).length
  piece-some sized at l =
      elim (piece_is ss at top l) [
        | inl p ↦ rw p.is (sized p.section p.among)
        | inr p ↦ rw p.is (omega arith)
      ]

  -- each piece takes of it
  pub room_falls : Each (λ s. 0 < s.size) ss → (at : ℕ) → at < top → room (at + (piece_at ss at top).length) < room at
  room_falls sized at l =
      let some : 0 < (piece_at ss at top).length = piece-some sized at l in
      elim (piece_is ss at top l) [
        | inl p ↦ room-past at (at + (piece_at ss at top).length) p.section p.among p.here l (omega arith)
        | inr p ↦
            let e : at + (piece_at ss at top).length ≡ p.until = ap (λ (q : Piece). at + q.length) p.is ∙ omega arith in
            rw e (elim (le-or-lt top p.until) [
              | inl k ↦ omega (arith, room-end p.until k, room-is at l, from-falls ss at top (omega arith), from-falls ss (at + 1) top (omega arith))
              | inr k ↦
                  let s = p.longest k in
                  let less : from ss (p.until + 1) < from ss p.until = rw s.2 at (from_past ss s.0 s.1) in
                  omega (arith, room-is p.until k, room-is at l, p.free, from-falls ss (at + 1) p.until (omega arith))
            ])
      ]

  pub cut-room : Each (λ s. 0 < s.size) ss → (steps at : ℕ) → length (cut steps ss at top) ≤ room at
  cut-room sized zero at = omega (arith, ap length (cut-none ss at top))
  cut-room sized (suc steps) at =
      let more : length (cut steps ss (at + (piece_at ss at top).length) top) ≤ room (at + (piece_at ss at top).length) =
      cut-room sized steps (at + (piece_at ss at top).length) in
      elim (le-or-lt top at) [
        | inl h ↦ omega (arith, ap length (cut-end (suc steps) ss at top h))
        | inr h ↦ omega (arith, ap length (cut_step steps ss at top h), room_falls sized at h)
      ]

  -- at most two for each section that starts in it, and one more
  pub cut_fits : Each (λ s. 0 < s.size) ss → (steps at : ℕ) → at ≤ top → length (cut steps ss at top) + 2 * from ss top ≤ 1 + 2 * from ss at
  cut_fits sized steps at h = omega (arith, cut-room sized steps at, room_most at h)

-- ---- the records in order

-- each record starts at or after the end of the one before, the first at or after `before`
abbrev pub InOrder : ℕ → List Record → Type 0
InOrder before [] = Unit
InOrder before (r ∷ rs) = (before ≤ r.start) × InOrder (end r) rs

module _ (ss : List Section) (sized : Each (λ s. 0 < s.size) ss) where
  of-fits : (r : Record) → length (pieces_of ss r) + 2 * from ss (end r) ≤ 1 + 2 * from ss r.start
  of-fits r = by r.kind refl
    where
      by : (k : ℕ) → r.kind ≡ k → length (pieces_of ss r) + 2 * from ss (end r) ≤ 1 + 2 * from ss r.start
      by zero e = omega (arith, ap length (of_none ss r e), from-falls ss r.start (end r) (omega arith))
      by (suc zero) e = omega (arith, ap length (of-ram ss r e), cut_fits ss (end r) sized (most_pieces ss) r.start (omega arith))
      by (suc (suc zero)) e = omega (arith, ap length (of-firmware ss r e), from-falls ss r.start (end r) (omega arith))
      by (suc (suc (suc k))) e = omega (arith, ap length (of-mapped ss r (omega arith)), from-falls ss r.start (end r) (omega arith))

  pieces-fit : (before : ℕ) (rs : List Record) → InOrder before rs → length (pieces ss rs) ≤ length rs + 2 * from ss before
  unfolding pieces
  pieces-fit before [] h = omega arith
  pieces-fit before (r ∷ rs) h =
      let more : length (pieces ss rs) ≤ length rs + 2 * from ss (end r) = pieces-fit (end r) rs h.1 in
      omega (arith, length-append (pieces_of ss r) (pieces ss rs), of-fits r, from-falls ss before r.start h.0)

  -- a piece for each record, and two for each section
  pub pieces-most : (rs : List Record) → InOrder 0 rs → length (pieces ss rs) ≤ length rs + 2 * length ss
  pieces-most rs h = omega (arith, pieces-fit 0 rs h, from-most ss 0)

-- "At most 128 pieces arise, so 6,208 bytes suffice"
pub record Few (ps : List Piece) : Type 0 where
  pub pieces : length ps ≤ 128
  pub bytes : list_length ps ≤ 6208

-- "There are 1 to 64 records", and 32 sections at most
pub few : (ss : List Section) (rs : List Record) → Each (λ s. 0 < s.size) ss → InOrder 0 rs → length ss ≤ 32 → length rs ≤ 64 → Few (pieces ss rs)
few ss rs sized h m n =
    let k : length (pieces ss rs) ≤ 128 = omega (arith, pieces-most ss sized rs h) in
    record { pieces = k; bytes = list-most (pieces ss rs) k }

-- ---- the records of a map

-- where record i may start: at `before` or above, or at the end of the record before it
ends : (ℕ → Record) → ℕ → ℕ → ℕ
ends f before zero = before
ends f before (suc i) = end (f i)

first : (f : ℕ → Record) (n : ℕ) → up_to f (suc n) ≡ f 0 ∷ up_to (λ i. f (suc i)) n
unfolding in_turn
first f zero = refl
first f (suc n) = ap (λ (rs : List Record). rs ++ (f (suc n) ∷ [])) (first f n)

ordered : (n : ℕ) (f : ℕ → Record) (before : ℕ) → ((i : ℕ) → i < n → ends f before i ≤ (f i).start) → InOrder before (up_to f n)
unfolding ends
ordered zero f before h = rw (up_to-none f) tt
ordered (suc n) f before h =
    subst (λ (rs : List Record). InOrder before rs) (sym (first f n))
    (h 0 (omega arith), ordered n (λ i. f (suc i)) (end (f 0)) (λ i l. rest i (h (suc i) (omega arith))))
  where
    rest : (i : ℕ) → end (f i) ≤ (f (suc i)).start → ends (λ j. f (suc j)) (end (f 0)) i ≤ (f (suc i)).start
    rest zero k = k
    rest (suc i) k = k

module _ (map : List ℕ) (order : (i : ℕ) → i < record_count map → end_before map i ≤ (record_at map i).start) where
  pub records-in-order : InOrder 0 (records map)
  unfolding records end_before ends
  records-in-order = ordered (record_count map) (record_at map) 0 (λ i l. by i (order i l))
    where
      by : (i : ℕ) → end_before map i ≤ (record_at map i).start → ends (record_at map) 0 i ≤ (record_at map i).start
      by zero k = k
      by (suc i) k = k

  -- of a map whose records are in order and 64 at most, and sections that are 32 at most, each with a size
  pub map-few : record_count map ≤ 64 → (f : ℕ → Section) (n : ℕ) → n ≤ 32 → ((i : ℕ) → i < n → 0 < (f i).size) → Few (pieces (up_to f n) (records map))
  unfolding records
  map-few m f n k sized =
      few (up_to f n) (records map) ((each-up_to (λ s. 0 < s.size) f n).1 sized) records-in-order (omega (arith, length-up_to f n)) (omega (arith, length-up_to (record_at map) (record_count map)))
