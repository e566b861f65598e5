-- The blocks of a measurement: the stream's, and the padding's as the last. Assumes nothing.
use Rattle.std.proofs.Common.{◌≡◌, ℕ, zero, suc, ◌+◌, ◌-◌, ◌*◌, ◌<◌, ◌≤◌, min, List, [], sym, refl, ap, ◌∙◌, ap₂, zero-add, arith, eq-eqb, ne_eqb}
use Rattle.sha384.specs.declared.State.{State}
use Rattle.sha384.specs.Constants.{H⁰}
use Rattle.sha384.specs.Padding.{padding}
use Rattle.sha384.specs.Hash.{compressed, left384, finished}
use Rattle.sha384.proofs.Hash.{finished-whole}
use Rattle.measure.specs.declared.Progress.{Progress}
use Rattle.measure.specs.Stream.{block_at, folded}
use Rattle.measure.specs.Turn.{whole_records, next_block}
use Rattle.measure.proofs.Folded.{folded_more}

module _ (image plan : List ℕ) (total n : ℕ) where
  -- the last block of the total
  pub next-padding : n + 1 ≡ total → next_block image plan total n ≡ padding (128 * n)
  unfolding next_block
  next-padding e = rw (eq-eqb (total - n) 1 (omega arith))

  -- and the others
  pub next-stream : (n + 1 ≡ total → ⊥) → next_block image plan total n ≡ block_at image (whole_records plan) n
  unfolding next_block
  next-stream h = rw (ne_eqb (total - n) 1 (λ e. h (omega arith)))

-- before the last block of the total a run is of the stream's blocks
pub stream-run : (image plan : List ℕ) (total : ℕ) (s : State) (n q : ℕ) → n + q < total
    → folded (block_at image (whole_records plan)) s n q ≡ folded (next_block image plan total) s n q
unfolding folded
stream-run image plan total s n zero h = refl
stream-run image plan total s n (suc q) h =
    ap₂ compressed (stream-run image plan total s n q (omega arith)) (sym (next-stream image plan total (n + q) (λ e. omega arith)))

-- and with the last block it ends in the padding
pub padded-run : (image plan : List ℕ) (total : ℕ) (s : State) (n q : ℕ) → n + q + 1 ≡ total
    → compressed (folded (block_at image (whole_records plan)) s n q) (padding (128 * (n + q))) ≡ folded (next_block image plan total) s n (q + 1)
padded-run image plan total s n q h =
    ap₂ compressed (stream-run image plan total s n q (omega arith)) (sym (next-padding image plan total (n + q) (omega arith)))
    ∙ folded_more (next_block image plan total) s n q

-- ---- the blocks of a turn, as the code does them: those of the stream that are left, and then the padding's

module _ (image plan : List ℕ) (s : Progress) (blocks streamed : ℕ) (v : State) (fit : s.done + blocks ≤ s.total)
    (e : streamed ≡ min blocks (s.total - 1 - s.done)) (h : v ≡ folded (block_at image (whole_records plan)) s.hash s.done streamed) where
  pub turn-stream : 0 < blocks → streamed ≡ blocks → v ≡ folded (next_block image plan s.total) s.hash s.done blocks
  turn-stream some all =
      h
      ∙ ap (folded (block_at image (whole_records plan)) s.hash s.done) all
      ∙ stream-run image plan s.total s.hash s.done blocks (omega arith)

  pub turn-padding : (streamed ≡ blocks → ⊥) → compressed v (padding (128 * (s.total - 1))) ≡ folded (next_block image plan s.total) s.hash s.done blocks
  turn-padding more =
      let last : s.total - 1 ≡ s.done + streamed = omega arith in
      let count : streamed + 1 ≡ blocks = omega arith in
      ap₂ (λ (r : State) (n : ℕ). compressed r (padding (128 * n))) h last
      ∙ padded-run image plan s.total s.hash s.done streamed (omega arith)
      ∙ ap (folded (next_block image plan s.total) s.hash s.done) count

-- ---- all of it in one run is FIPS 180-4's digest of the stream's q blocks
pub whole_run : (image plan : List ℕ) (q : ℕ)
    → left384 (folded (next_block image plan (q + 1)) H⁰ 0 (q + 1)) ≡ finished (folded (block_at image (whole_records plan)) H⁰ 0 q) [] (128 * q)
whole_run image plan q =
    ap left384 (sym (padded-run image plan (q + 1) H⁰ 0 q (omega arith)) ∙ ap (λ (k : ℕ). compressed (folded (block_at image (whole_records plan)) H⁰ 0 q) (padding (128 * k))) (zero-add q))
    ∙ sym (finished-whole (folded (block_at image (whole_records plan)) H⁰ 0 q) q)
