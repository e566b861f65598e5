-- The view: which slice a type names, and which part of it is shown.
-- Assumes nothing.
use mathlib.Core.Path.{◌≡◌, refl}
use mathlib.Core.Bool.{Bool, true, false, ◌&&◌}
use mathlib.Core.List.{List, []}
use Prim.Native.Nat.{ℕ, zero, suc, ◌+◌, ◌≤◌, ◌<◌}
use native.Mathlib.Omega.{arith}
use lib.Dec.{leb}
use lib.ListN.{length, take, drop}
use lib.Seq.{take-nil, drop-nil}
use borrow.Author.Tests.{le-leb, lt-leb}
use Rattle.verdict.specs.Rules.{pick}
use Rattle.plan.specs.View.{slice_of, part, view}

-- ---- the part

pub part-inside : (s : List ℕ) (offset size : ℕ) → offset + size ≤ length s → size ≤ 4096 → part s offset size ≡ take size (drop offset s)
unfolding part
part-inside s offset size h l = rw (le-leb (offset + size) (length s) h, le-leb size 4096 l)

pub part-past : (s : List ℕ) (offset size : ℕ) → length s < offset + size → part s offset size ≡ []
unfolding part
part-past s offset size h = rw (lt-leb (offset + size) (length s) h)

never : (b : Bool) (shown : List ℕ) → pick (b && false) shown [] ≡ []
never true shown = refl
never false shown = refl

pub part-long : (s : List ℕ) (offset size : ℕ) → 4096 < size → part s offset size ≡ []
unfolding part
part-long s offset size h = rw (lt-leb size 4096 h) (never (leb (offset + size) (length s)) (take size (drop offset s)))

either-empty : (b : Bool) (shown : List ℕ) → shown ≡ [] → pick b shown [] ≡ []
either-empty true shown e = e
either-empty false shown e = refl

-- no part of nothing shows anything
pub part_none : (offset size : ℕ) → part [] offset size ≡ []
unfolding part
part_none offset size = either-empty (leb (offset + size) 0 && leb size 4096) (take size (drop offset [])) (rw drop-nil (take-nil size))

-- ---- the slice

module _ (image handoff : List ℕ) (offset size : ℕ) where
  -- "of the image for types 0 and 1"
  pub view-volume : (sort : ℕ) → sort < 2 → view image handoff offset size sort ≡ part image offset size
  unfolding view slice_of
  view-volume zero h = refl
  view-volume (suc zero) h = refl
  view-volume (suc (suc t)) h = absurd (omega arith)

  -- "of the HOB list for type 2"
  pub view-list : (sort : ℕ) → sort ≡ 2 → view image handoff offset size sort ≡ part handoff offset size
  unfolding view slice_of
  view-list sort e = rw e

  -- "the type is 3 or more"
  pub view-none : (sort : ℕ) → 3 ≤ sort → view image handoff offset size sort ≡ []
  unfolding view slice_of
  view-none zero h = absurd (omega arith)
  view-none (suc zero) h = absurd (omega arith)
  view-none (suc (suc zero)) h = absurd (omega arith)
  view-none (suc (suc (suc t))) h = part_none offset size
