-- The pieces of a record of RAM cover it in order, with no gap and no overlap; each section in it is one of them; and the others are the
-- longest runs that no section meets. The steps that `cut` is given are enough. Assumes nothing.
use mathlib.Core.Path.{◌≡◌, refl, sym, ap, ◌∙◌}
use mathlib.Core.Bool.{Bool, true, false}
use mathlib.Core.Logic.{◌⊎◌, inl, inr}
use mathlib.Core.List.{List, [], ◌∷◌, Memᴰ}
use Prim.Native.Nat.{ℕ, zero, suc, ◌+◌, ◌-◌, ◌≤◌, ◌<◌, min, max}
use native.Mathlib.Omega.{arith}
use borrow.Author.Tests.{ltb-false}
use Rattle.verdict.specs.Turns.{up_to}
use Rattle.verdict.proofs.Turns.{up_to-of, in-up_to}
use Rattle.verdict.proofs.Each.{Each, each-up_to}
use Rattle.memory.specs.declared.Record.{Record}
use Rattle.memory.specs.Map as memory
use Rattle.memory.proofs.Inside.{Held, inside-meaning}
use Rattle.tdvf.specs.declared.Section.{Section}
use Rattle.tdvf.specs.Section.{end, shares, shared_broken}
use Rattle.tdvf.proofs.Shares.{apart-exactly}
use Rattle.handoff.specs.declared.Piece.{Piece}
use Rattle.handoff.specs.Cover.{Chain}
use Rattle.handoff.specs.Pieces.{section_piece, run_piece, piece_at, cut, most_pieces, pieces_of}
use Rattle.handoff.proofs.Cut.{cut-none, cut-end}
use Rattle.handoff.proofs.Count.{of-ram}
use Rattle.handoff.proofs.Most.{le-or-lt, from, from-most, from-falls, from_past, piece_is, piece-some, cut_step, room, room_most, room_falls, InOrder, records-in-order}

pub piece-start : (ss : List Section) (at top : ℕ) → at < top → (piece_at ss at top).start ≡ at
piece-start ss at top l = elim (piece_is ss at top l) [ inl p ↦ rw p.is | inr p ↦ rw p.is ]

-- the steps that `cut` is given are enough
pub enough : (ss : List Section) (start top : ℕ) → start ≤ top → room ss top start ≤ most_pieces ss
enough ss start top h = omega (arith, room_most ss top start h, from-most ss start)

-- ---- the chain: asks that each section has a size, and that each which starts from `start` on and below `top` ends at `top` or below

module _ (ss : List Section) (start top : ℕ) (sized : Each (λ s. 0 < s.size) ss) (within : Each (λ s. start ≤ s.address → s.address < top → end s ≤ top) ss) where
  piece-ends : (at : ℕ) → start ≤ at → at < top → at + (piece_at ss at top).length ≤ top
  piece-ends at h l =
      elim (piece_is ss at top l) [
        | inl p ↦ rw p.is (let e = p.here in omega (arith, within p.section p.among (omega arith) (omega arith)))
        | inr p ↦ rw p.is (omega arith)
      ]

  chained : (steps at : ℕ) → start ≤ at → at ≤ top → room ss top at ≤ steps → Chain at (cut steps ss at top) top
  chained zero at h l k =
      elim (le-or-lt top at) [
        | inl e ↦ rw (cut-none ss at top) (omega arith)
        | inr e ↦ absurd (omega (arith, room_falls ss top sized at e))
      ]
  chained (suc steps) at h l k =
      elim (le-or-lt top at) [
        | inl e ↦ rw (cut-end (suc steps) ss at top e) (omega arith)
        | inr e ↦
            rw (cut_step steps ss at top e) (
              piece-start ss at top e,
              piece-some ss top sized at e,
              chained steps (at + (piece_at ss at top).length) (omega arith) (piece-ends at h e) (omega (arith, room_falls ss top sized at e)),
            )
      ]

  -- the pieces cover what is cut, in order, with no gap and no overlap
  pub cover : start ≤ top → Chain start (cut (most_pieces ss) ss start top) top
  cover h = chained (most_pieces ss) start (omega arith) h (enough ss start top h)

-- ---- which pieces there are

-- each section lies in what is cut or out of it, with a size, and what starts in a section is that section
pub record Clear (ss : List Section) (start top : ℕ) : Type 0 where
  pub sized : Each (λ s. 0 < s.size) ss
  pub before : Each (λ s. s.address < start → end s ≤ start) ss
  pub within : Each (λ s. start ≤ s.address → s.address < top → end s ≤ top) ss
  pub apart : (s t : Section) → Memᴰ s ss → Memᴰ t ss → s.address ≤ t.address → t.address < end s → t ≡ s

-- the piece of a section that starts from `start` on and below `top`
pub record OfSection (ss : List Section) (start top : ℕ) (p : Piece) : Type 0 where
  pub section : Section
  pub among : Memᴰ section ss
  pub above : start ≤ section.address
  pub below : section.address < top
  pub is : p ≡ section_piece section.address section.size

-- a run that no section meets. It is the longest: it starts at `start` or where a section ends, and ends at `top` or where a section starts
pub record OfRun (ss : List Section) (start top : ℕ) (p : Piece) : Type 0 where
  pub is : p ≡ run_piece p.start p.length
  pub free : Each (λ s. (end s ≤ p.start) ⊎ (p.start + p.length ≤ s.address)) ss
  pub left : (p.start ≡ start) ⊎ ((s : Section) × Memᴰ s ss × (end s ≡ p.start))
  pub right : (p.start + p.length ≡ top) ⊎ ((s : Section) × Memᴰ s ss × (s.address ≡ p.start + p.length))

-- where no section starts from x on and below y, one that starts below y starts below x
skipped : (ss : List Section) (x y : ℕ) → from ss y ≡ from ss x → (s : Section) → Memᴰ s ss → s.address < y → s.address < x
skipped ss x y e s m l =
    elim (le-or-lt x s.address) [
      | inl h ↦ absurd (omega (arith, from_past ss s m, from-falls ss x s.address h, from-falls ss (s.address + 1) y (omega arith)))
      | inr h ↦ h
    ]

module _ (ss : List Section) (start top : ℕ) (clear : Clear ss start top) where
  -- how far the cutting has come: no section reaches across, and it is at `start`, or where a section ends, or where one starts
  record Reached (at : ℕ) : Type 0 where
    past : start ≤ at
    across : Each (λ s. s.address < at → end s ≤ at) ss
    edge : (at ≡ start) ⊎ (((s : Section) × Memᴰ s ss × (end s ≡ at)) ⊎ ((s : Section) × Memᴰ s ss × (s.address ≡ at)))

  reached-next : (at : ℕ) → at < top → Reached at → at + (piece_at ss at top).length < top → Reached (at + (piece_at ss at top).length)
  reached-next at l h =
      elim (piece_is ss at top l) [
        | inl p ↦ rw p.is (λ b.
            let e = p.here in
            record {
              past = omega (arith, h.past);
              across = λ s m k.
                  elim (le-or-lt at s.address) [
                    | inl j ↦
                        let same : s ≡ p.section = clear.apart p.section s p.among m (omega arith) (omega arith) in
                        omega (arith, ap (λ (t : Section). end t) same)
                    | inr j ↦ omega (arith, h.across s m j)
                  ];
              edge = inr (inl (p.section, p.among, omega arith));
            })
        | inr p ↦
            let e : at + (p.until - at) ≡ p.until = omega arith in
            rw (p.is, e) (λ b.
            record {
              past = omega (arith, h.past);
              across = λ s m k. omega (arith, h.across s m (skipped ss at p.until p.free s m k));
              edge = inr (inr (p.longest b));
            })
      ]

  first-is : (at : ℕ) → at < top → Reached at → OfSection ss start top (piece_at ss at top) ⊎ OfRun ss start top (piece_at ss at top)
  first-is at l h =
      elim (piece_is ss at top l) [
        | inl p ↦
            let e = p.here in
            inl (record {
              section = p.section;
              among = p.among;
              above = omega (arith, h.past);
              below = omega arith;
              is = p.is ∙ ap (λ (x : ℕ). section_piece x p.section.size) (sym e);
            })
        | inr p ↦
            let e : at + (p.until - at) ≡ p.until = omega arith in
            rw p.is (inr (record {
              is = refl;
              free = λ s m. rw e (elim (le-or-lt p.until s.address) [ inl k ↦ inr k | inr k ↦ inl (h.across s m (skipped ss at p.until p.free s m k)) ]);
              left = elim h.edge [
                | inl k ↦ inl k
                | inr k ↦ elim k [
                  | inl j ↦ inr j
                  | inr j ↦ absurd (let q = j.2 in omega (arith, skipped ss at p.until p.free j.0 j.1 (omega arith)))
                ]
              ];
              right = rw e (elim (le-or-lt top p.until) [ inl k ↦ inl (omega arith) | inr k ↦ inr (p.longest k) ]);
            }))
      ]

  each-is : (steps at : ℕ) → Reached at → Each (λ p. OfSection ss start top p ⊎ OfRun ss start top p) (cut steps ss at top)
  each-is zero at h p m = absurd (mathlib.Core.List.Memᴰ.not-nil (rw (cut-none ss at top) at m))
  each-is (suc steps) at h p m =
      elim (le-or-lt top at) [
        | inl l ↦ absurd (mathlib.Core.List.Memᴰ.not-nil (rw (cut-end (suc steps) ss at top l) at m))
        | inr l ↦ elim (mathlib.Core.List.Memᴰ.cases_cons (rw (cut_step steps ss at top l) at m)) [
          | inl e ↦ rw e (first-is at l h)
          | inr t ↦ elim (le-or-lt top (at + (piece_at ss at top).length)) [
            | inl k ↦ absurd (mathlib.Core.List.Memᴰ.not-nil (rw (cut-end steps ss (at + (piece_at ss at top).length) top k) at t))
            | inr k ↦ each-is steps (at + (piece_at ss at top).length) (reached-next at l h k) p t
          ]
        ]
      ]

  has-section : (s : Section) → Memᴰ s ss → s.address < top → (steps at : ℕ) → at ≤ s.address → room ss top at ≤ steps
      → Memᴰ (section_piece s.address s.size) (cut steps ss at top)
  has-section s m l zero at h k = absurd (omega (arith, room_falls ss top clear.sized at (omega arith)))
  has-section s m l (suc steps) at h k =
      let a : at < top = omega arith in
      let falls : room ss top (at + (piece_at ss at top).length) < room ss top at = room_falls ss top clear.sized at a in
      let rest : at + (piece_at ss at top).length ≤ s.address → Memᴰ (section_piece s.address s.size) (cut steps ss (at + (piece_at ss at top).length) top) =
      λ b. has-section s m l steps (at + (piece_at ss at top).length) b (omega arith) in
      rw (cut_step steps ss at top a) (
      elim (piece_is ss at top a) [
        | inl p ↦
            let e = p.here in
            let z : (piece_at ss at top).length ≡ p.section.size = ap (λ (q : Piece). q.length) p.is in
            elim (le-or-lt (at + (piece_at ss at top).length) s.address) [
              | inl b ↦ mathlib.Core.List.Memᴰ.tail (rest b)
              | inr b ↦
                  let same : s ≡ p.section = clear.apart p.section s p.among m (omega arith) (omega arith) in
                  mathlib.Core.List.Memᴰ.head (ap (λ (t : Section). section_piece t.address t.size) same ∙ ap (λ (x : ℕ). section_piece x p.section.size) e ∙ sym p.is)
            ]
        | inr p ↦
            let z : (piece_at ss at top).length ≡ p.until - at = ap (λ (q : Piece). q.length) p.is in
            elim (le-or-lt p.until s.address) [
              | inl b ↦ mathlib.Core.List.Memᴰ.tail (rest (omega arith))
              | inr b ↦ absurd (omega (arith, skipped ss at p.until p.free s m b))
            ]
      ])

  -- each piece is a section's, or a longest run that no section meets
  pub pieces_are : Each (λ p. OfSection ss start top p ⊎ OfRun ss start top p) (cut (most_pieces ss) ss start top)
  pieces_are = each-is (most_pieces ss) start (record { past = omega arith; across = clear.before; edge = inl refl })

  -- and each section that starts in what is cut has its piece
  pub sections-have : (s : Section) → Memᴰ s ss → start ≤ s.address → s.address < top
      → Memᴰ (section_piece s.address s.size) (cut (most_pieces ss) ss start top)
  sections-have s m h l = has-section s m l (most_pieces ss) start h (enough ss start top (omega arith))

-- ---- a record of RAM

-- "A RAM record is cut into one piece for each section in it and one for each longest run without a section, ascending"
pub record Covered (ss : List Section) (r : Record) : Type 0 where
  pub chain : Chain r.start (pieces_of ss r) (memory.end r)
  pub are : Each (λ p. OfSection ss r.start (memory.end r) p ⊎ OfRun ss r.start (memory.end r) p) (pieces_of ss r)
  pub have : (s : Section) → Memᴰ s ss → r.start ≤ s.address → s.address < memory.end r → Memᴰ (section_piece s.address s.size) (pieces_of ss r)

pub ram-covered : (ss : List Section) (r : Record) → Clear ss r.start (memory.end r) → r.kind ≡ 1 → Covered ss r
ram-covered ss r clear k =
    let e : pieces_of ss r ≡ cut (most_pieces ss) ss r.start (memory.end r) = of-ram ss r k in
    record {
      chain = rw e (cover ss r.start (memory.end r) clear.sized clear.within (omega arith));
      are = rw e (pieces_are ss r.start (memory.end r) clear);
      have = λ s m h l. rw e (sections-have ss r.start (memory.end r) clear s m h l);
    }

-- ---- what the rules of the map and of the sections give

-- each record starts at or after `before`
in-order-below : (before : ℕ) (rs : List Record) → InOrder before rs → (r : Record) → Memᴰ r rs → before ≤ r.start
in-order-below before [] h r m = absurd (mathlib.Core.List.Memᴰ.not-nil m)
in-order-below before (x ∷ rs) h r m =
    elim (mathlib.Core.List.Memᴰ.cases_cons m) [
      | inl e ↦ rw e h.0
      | inr k ↦ omega (arith, h.0, in-order-below (memory.end x) rs h.1 r k)
    ]

-- and of two of them one ends at or before the other's start
in-order-two : (before : ℕ) (rs : List Record) → InOrder before rs → (r t : Record) → Memᴰ r rs → Memᴰ t rs
    → (r ≡ t) ⊎ ((memory.end r ≤ t.start) ⊎ (memory.end t ≤ r.start))
in-order-two before [] h r t m n = absurd (mathlib.Core.List.Memᴰ.not-nil m)
in-order-two before (x ∷ rs) h r t m n =
    elim (mathlib.Core.List.Memᴰ.cases_cons m) [
      | inl e ↦ elim (mathlib.Core.List.Memᴰ.cases_cons n) [
        | inl d ↦ inl (e ∙ sym d)
        | inr l ↦ inr (inl (rw e (in-order-below (memory.end x) rs h.1 t l)))
      ]
      | inr k ↦ elim (mathlib.Core.List.Memᴰ.cases_cons n) [
        | inl d ↦ inr (inr (rw d (in-order-below (memory.end x) rs h.1 r k)))
        | inr l ↦ in-order-two (memory.end x) rs h.1 r t k l
      ]
    ]

-- each section lies wholly inside one record of a kind that it may have: rule 14 asks it
abbrev pub Inside : (Section → ℕ → Bool) → List Record → (ℕ → Section) → ℕ → Type 0
Inside allowed rs f n = (k : ℕ) → k < n → memory.inside (allowed (f k)) rs (f k).address (f k).size ≡ true

-- and shares no address with an earlier one: rule 15 asks it
abbrev pub Unshared : (ℕ → Section) → ℕ → Type 0
Unshared f n = (k : ℕ) → k < n → shared_broken (up_to f k) (f k) ≡ false

module _ (f : ℕ → Section) (n : ℕ) (sized : Each (λ s. 0 < s.size) (up_to f n)) (unshared : Unshared f n) where
  one-first : (i j : ℕ) → i < j → j < n → min (end (f i)) (end (f j)) ≤ max (f i).address (f j).address
  unfolding shares
  one-first i j l h =
      ltb-false (max (f i).address (f j).address) (min (end (f i)) (end (f j))) ((apart-exactly (up_to f j) (f j)).0 (unshared j h) (f i) (in-up_to f j i l))

  same : (i j : ℕ) → i < n → j < n → (f i).address ≤ (f j).address → (f j).address < end (f i) → f j ≡ f i
  same i j k l a b =
      let z : 0 < (f j).size = sized (f j) (in-up_to f n j l) in
      elim (le-or-lt i j) [
        | inl h ↦ elim (le-or-lt j i) [ inl g ↦ ap f (omega arith) | inr g ↦ absurd (omega (arith, one-first i j g l)) ]
        | inr h ↦ absurd (omega (arith, one-first j i h k))
      ]

  -- then each record is clear
  pub clear_of : (allowed : Section → ℕ → Bool) (rs : List Record) → InOrder 0 rs → Inside allowed rs f n → (r : Record) → Memᴰ r rs
      → Clear (up_to f n) r.start (memory.end r)
  clear_of allowed rs order inside r m =
      let held : Each (λ s. Held (allowed s) rs s.address s.size) (up_to f n) =
      (each-up_to (λ s. Held (allowed s) rs s.address s.size) f n).1 (λ k l. (inside-meaning (allowed (f k)) (f k).address (f k).size rs).0 (inside k l)) in
      record {
        sized = sized;
        before = λ s k l.
            let t = held s k in
            elim (in-order-two 0 rs order r t.holder m t.member) [
              | inl e ↦ let q : r.start ≡ t.holder.start = ap (λ (x : Record). x.start) e in absurd (omega arith)
              | inr b ↦ elim b [ inl c ↦ absurd (omega arith) | inr c ↦ omega arith ]
            ];
        within = λ s k l h.
            let t = held s k in
            elim (in-order-two 0 rs order r t.holder m t.member) [
              | inl e ↦ omega (arith, ap (λ (x : Record). memory.end x) e)
              | inr b ↦ elim b [ inl c ↦ absurd (omega arith) | inr c ↦ absurd (omega (arith, sized s k)) ]
            ];
        apart = λ s t k l.
            let i = up_to-of f n k in
            let j = up_to-of f n l in
            rw (i.2, j.2) (same i.0 j.0 i.1 j.1);
      }

-- so each record of RAM of a map in order is covered
pub map-covered : (map : List ℕ) → ((i : ℕ) → i < memory.record_count map → memory.end_before map i ≤ (memory.record_at map i).start)
    → (f : ℕ → Section) (n : ℕ) → ((k : ℕ) → k < n → 0 < (f k).size) → (allowed : Section → ℕ → Bool) → Inside allowed (memory.records map) f n → Unshared f n
    → (i : ℕ) → i < memory.record_count map → (memory.record_at map i).kind ≡ 1 → Covered (up_to f n) (memory.record_at map i)
unfolding memory.records
map-covered map order f n sized allowed inside unshared i l k =
    let z : Each (λ s. 0 < s.size) (up_to f n) = (each-up_to (λ s. 0 < s.size) f n).1 sized in
    let r : Record = memory.record_at map i in
    let m : Memᴰ r (memory.records map) = in-up_to (memory.record_at map) (memory.record_count map) i l in
    ram-covered (up_to f n) r (clear_of f n z unshared allowed (memory.records map) (records-in-order map order) inside r m) k
