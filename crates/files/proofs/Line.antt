-- The part of a buffer that a line was written into is the line. Assumes nothing.
use mathlib.Core.Path.{◌≡◌, ap, ◌∙◌}
use Prim.Native.Nat.{ℕ, ◌+◌, ◌≤◌}
use native.Mathlib.Omega.{arith}
use mathlib.Core.List.{List}
use lib.ListN.{length, take, drop}
use lib.Seq.{sets, sets-eq, take-append_seam}

pub line_written : (l line : List ℕ) (n : ℕ) → n ≡ length line → length line ≤ length l → take n (sets l 0 line) ≡ line
line_written l line n e h =
    ap (λ (k : ℕ). take k (sets l 0 line)) e
    ∙ ap (λ (r : List ℕ). take (length line) r) (sets-eq line l 0 (omega arith))
    ∙ take-append_seam line (drop (0 + length line) l)
