-- Cutting a record of RAM: the next section, the piece, and the pieces one after the other. Assumes nothing.
use mathlib.Core.Path.{◌≡◌, refl, sym, ap, ap₂, ◌∙◌}
use mathlib.Core.Bool.{Bool, true, false, ◌&&◌}
use mathlib.Core.List.{List, [], ◌∷◌}
use Prim.Native.Nat.{ℕ, zero, suc, ◌+◌, ◌-◌, ◌≤◌, ◌<◌, min}
use native.Mathlib.Numerals.{sub-one}
use native.Mathlib.Omega.{arith}
use lib.Dec.{leb, ltb}
use lib.ListN.{length, get_or, drop}
use lib.Seq.{drop-cons, drop-length}
use borrow.Author.Tests.{le-leb, lt-leb, leb-true, leb-false, ltb-true, eq-eqb, ne_eqb}
use Rattle.verdict.specs.Rules.{pick}
use Rattle.tdvf.specs.declared.Section.{Section}
use Rattle.handoff.specs.declared.Next.{Next}
use Rattle.handoff.specs.declared.Piece.{Piece}
use Rattle.handoff.specs.Pieces.{section_piece, run_piece, lower_of, next_of, piece_at, cut}

-- ---- the sections from the last down

module _ (ss : List Section) (at top : ℕ) where
  pub next-none : record { start = top; size = 0 } ≡ next_of (drop (length ss) ss) at top
  unfolding next_of
  next-none = ap (λ (l : List Section). next_of l at top) (sym (drop-length ss))

  -- one section more, in front
  pub next_more : (k : ℕ) (s : Section) → 0 < k → k ≤ length ss → s ≡ get_or ss (k - 1) s
      → lower_of (next_of (drop k ss) at top) s at ≡ next_of (drop (k - 1) ss) at top
  unfolding next_of
  next_more k s h l e =
      let i : ℕ = k - 1 in
      let n : suc i ≡ k = omega arith in
      sym (ap (λ (l : List Section). next_of l at top)
      (drop-cons ss i s (omega arith)
      ∙ ap (λ (t : Section). t ∷ drop (suc i) ss) (sym e)
      ∙ ap (λ (m : ℕ). s ∷ drop m ss) n))

-- the next start is where it is looked for: at `at` or above, and not above `top`
pub next-high : (ss : List Section) (at top : ℕ) → (next_of ss at top).start ≤ top
unfolding next_of lower_of
next-high [] at top = omega arith
next-high (s ∷ ss) at top = by (leb at s.address) (ltb s.address (next_of ss at top).start) refl (next-high ss at top)
  where
    by : (b d : Bool) → ltb s.address (next_of ss at top).start ≡ d → (next_of ss at top).start ≤ top
        → (pick (b && d) (record { start = s.address; size = s.size }) (next_of ss at top)).start ≤ top
    by true true e l = let h : s.address < (next_of ss at top).start = ltb-true s.address (next_of ss at top).start e in omega arith
    by true false e l = l
    by false d e l = l

pub next_low : (ss : List Section) (at top : ℕ) → at ≤ top → at ≤ (next_of ss at top).start
unfolding next_of lower_of
next_low [] at top h = h
next_low (s ∷ ss) at top h = by (leb at s.address) (ltb s.address (next_of ss at top).start) refl (next_low ss at top h)
  where
    by : (b d : Bool) → leb at s.address ≡ b → at ≤ (next_of ss at top).start
        → at ≤ (pick (b && d) (record { start = s.address; size = s.size }) (next_of ss at top)).start
    by true true e l = leb-true at s.address e
    by true false e l = l
    by false d e l = l

-- ---- the piece at `at`

module _ (ss : List Section) (at top : ℕ) (next : Next) (e : next ≡ next_of ss at top) where
  pub piece-section : next.start ≡ at → section_piece at next.size ≡ piece_at ss at top
  unfolding piece_at
  piece-section h = rw (← e, eq-eqb next.start at h)

  pub piece-run : (next.start ≡ at → ⊥) → run_piece at (next.start - at) ≡ piece_at ss at top
  unfolding piece_at
  piece-run h = rw (← e, ne_eqb next.start at h)

  pub piece-fits : at ≤ top → at ≤ next.start
  piece-fits h = omega (arith, next_low ss at top h, ap (λ (n : Next). n.start) e)

-- ---- the pieces one after the other

pub cut-none : (ss : List Section) (at top : ℕ) → cut 0 ss at top ≡ []
unfolding cut
cut-none ss at top = refl

-- nothing is left to cut from the end on
pub cut-end : (steps : ℕ) (ss : List Section) (at top : ℕ) → top ≤ at → cut steps ss at top ≡ []
unfolding cut
cut-end zero ss at top h = refl
cut-end (suc steps) ss at top h = rw (le-leb top at h)

pub cut-more : (steps : ℕ) (ss : List Section) (at top : ℕ) → 0 < steps → at < top
    → cut steps ss at top ≡ piece_at ss at top ∷ cut (steps - 1) ss (at + (piece_at ss at top).length) top
unfolding cut
cut-more zero ss at top l h = absurd (omega arith)
cut-more (suc steps) ss at top l h = rw (lt-leb top at h, sub-one (suc steps))

-- where the next piece starts may be taken as `top` where it is above
pub cut-past : (steps : ℕ) (ss : List Section) (a top : ℕ) → cut steps ss (min a top) top ≡ cut steps ss a top
cut-past steps ss a top = by (leb top a) refl
  where
    by : (b : Bool) → leb top a ≡ b → cut steps ss (min a top) top ≡ cut steps ss a top
    by true e =
        let h : top ≤ a = leb-true top a e in
        cut-end steps ss (min a top) top (omega arith) ∙ sym (cut-end steps ss a top h)
    by false e =
        let h : a < top = leb-false top a e in
        ap (λ (x : ℕ). cut steps ss x top) (omega arith)

-- the next piece, known by equations, and those behind it
pub cut_turn : (steps : ℕ) (ss : List Section) (at at' top : ℕ) (p : Piece) → 0 < steps → at < top → p ≡ piece_at ss at top → at' ≡ min (at + p.length) top
    → cut steps ss at top ≡ p ∷ cut (steps - 1) ss at' top
cut_turn steps ss at at' top p l h e q =
    cut-more steps ss at top l h
    ∙ ap₂ (λ (x : Piece) (r : List Piece). x ∷ r) (sym e)
    (ap (λ (x : Piece). cut (steps - 1) ss (at + x.length) top) (sym e)
    ∙ sym (cut-past (steps - 1) ss (at + p.length) top)
    ∙ ap (λ (x : ℕ). cut (steps - 1) ss x top) (sym q))
