-- What a page shows of an image is its share of its section's data and no more: images of one length that agree there show the same.
-- Assumes nothing.
use mathlib.Core.Path.{◌≡◌, sym, ap, ap₂, ◌∙◌}
use mathlib.Core.Bool.{◌&&◌}
use mathlib.Core.List.{List, []}
use Prim.Native.Nat.{ℕ, ◌+◌, ◌≤◌, ◌<◌}
use native.Mathlib.Omega.{arith}
use lib.Dec.{leb}
use lib.ListN.{length, get_or}
use Rattle.verdict.specs.Rules.{pick}
use Rattle.tdvf.specs.declared.Section.{Section}
use Rattle.tdvf.proofs.Alike.{part_same}
use Rattle.plan.specs.declared.Page.{Page}
use Rattle.plan.specs.declared.Source.{Source}
use Rattle.plan.specs.Plan.{source_of, data_length, page_of}
use Rattle.plan.specs.View.{part, content, held}
use Rattle.plan.proofs.Share.{source-volume, offset-some}
use Rattle.plan.proofs.Shown.{view-volume}

-- ---- the bytes of a page are bytes of its section's data

-- byte i lies in the data of a section
pub record InData (s : Section) (i : ℕ) : Type 0 where
  pub from : s.offset ≤ i
  pub to : i < s.offset + s.raw

pub page-data : (handoff : ℕ) (s : Section) (k : ℕ) → s.sort < 2 → (j : ℕ) → j < (page_of handoff s k).length → InData s ((page_of handoff s k).offset + j)
unfolding page_of data_length
page-data handoff s k volume j l =
    let d : Source = source_of handoff s in
    let is = source-volume handoff s volume in
    let start : d.start ≡ s.offset = ap (λ (x : Source). x.start) is in
    let amount : d.amount ≡ s.raw = ap (λ (x : Source). x.amount) is in
    let at = offset-some d k (λ z. omega arith) in
    record { from = omega (arith, at); to = omega (arith, at) }

-- ---- what is shown

part-alike : (s t : List ℕ) (offset size : ℕ) → length t ≡ length s → ((k : ℕ) → k < size → get_or t (offset + k) 0 ≡ get_or s (offset + k) 0)
    → part t offset size ≡ part s offset size
unfolding part
part-alike s t offset size e h =
    ap₂ (λ (l : ℕ) (x : List ℕ). pick (leb (offset + size) l && leb size 4096) x []) e (part_same s t offset size e h)

pub held-alike : (image other handoff : List ℕ) (p : Page) → p.sort < 2 → length other ≡ length image
    → ((k : ℕ) → k < p.length → get_or other (p.offset + k) 0 ≡ get_or image (p.offset + k) 0) → held other handoff p ≡ held image handoff p
unfolding held
held-alike image other handoff p volume e h =
    ap content
    (view-volume other handoff p.offset p.length p.sort volume ∙ part-alike image other p.offset p.length e h
    ∙ sym (view-volume image handoff p.offset p.length p.sort volume))
