-- Rules 9 to 19 and the layout: the code's stages, what each way out answers, and that what stands from the descriptor on serves as the
-- image's own fields. Assumes nothing.
use mathlib.Core.Path.{◌≡◌, refl, ap, ap₂, ◌∙◌}
use mathlib.Core.List.{List, [], ◌∷◌}
use Prim.Native.Nat.{ℕ, ◌+◌, ◌*◌, ◌≤◌, ◌<◌}
use native.Mathlib.Omega.{arith}
use lib.ListN.{length}
use Rattle.std.specs.Prelude.{Ok, Err}
use Rattle.verdict.specs.declared.Refusal.{Refusal}
use Rattle.verdict.specs.Turns.{in_turn, up_to}
use Rattle.verdict.specs.Rules.{Rule, judge}
use Rattle.verdict.proofs.Turns.{turn-same, length-up_to}
use Rattle.verdict.proofs.Rules.{judge-then, judge-refused}
use Rattle.tdvf.specs.declared.Section.{Section}
use Rattle.tdvf.specs.declared.Totals.{Totals}
use Rattle.tdvf.specs.Image.{Fields, section_count, section_at, sections}
use Rattle.tdvf.specs.Section.{boot_broken, handoff_broken, pages_broken, totals_of}
use Rattle.memory.specs.Map.{record_at, record_count, records}
use Rattle.handoff.specs.Pieces.{pieces}
use Rattle.handoff.specs.List.{list_length}
use Rattle.handoff.proofs.Count.{pieces-few}
use Rattle.launch.specs.Host.{Host, host_with}
use Rattle.launch.specs.Rules.{outside_broken, handoff_length, list_broken, section_rules, last_rules, layout_of}
use Rattle.launch.specs.Stages.{fields_with, last_of, laid_out}

-- ---- what the rules make of the answer

module _ (h : Host) (f : Fields) where
  abbrev row : List Rule
  row = in_turn (section_rules h f) (section_count f.descriptor)

  pub laid-sections : (r : Refusal) → judge row ≡ Err r → laid_out h f ≡ Err r
  unfolding laid_out
  laid-sections r e = rw (judge-refused row (last_rules h f) r e)

  module _ (kept : judge row ≡ Ok tt) where
    pub laid-last : (r : Refusal) → judge (last_rules h f) ≡ Err r → laid_out h f ≡ Err r
    unfolding laid_out
    laid-last r e = rw (judge-then row (last_rules h f) kept ∙ e)

    pub laid-out : judge (last_rules h f) ≡ Ok tt → laid_out h f ≡ Ok (layout_of h f)
    unfolding laid_out
    laid-out e = rw (judge-then row (last_rules h f) kept ∙ e)

  -- rules 16 to 19 by the totals
  pub last-is : last_of (totals_of (sections f)) (handoff_length h f) ≡ last_rules h f
  unfolding last_of totals_of last_rules boot_broken handoff_broken pages_broken list_broken
  last-is = refl

-- ---- what a stage does not look at

pub sections-any : (m : List ℕ) (L o n : ℕ) (d : List ℕ)
    → judge (in_turn (section_rules (host_with m 0 0 0) (fields_with L 0 d)) n) ≡ judge (in_turn (section_rules (host_with m 0 0 0) (fields_with L o d)) n)
unfolding section_rules
sections-any m L o n d = refl

-- ---- two readings of an image that have the same sections

module _ (m : List ℕ) (w p q : ℕ) (f : Fields) (d : List ℕ) (count : section_count d ≡ section_count f.descriptor)
    (same : (k : ℕ) → k < section_count d → section_at d k ≡ section_at f.descriptor k) where
  abbrev near : Fields
  near = fields_with f.length f.offset d

  abbrev bare : Host
  bare = host_with m 0 0 0

  abbrev full : Host
  full = host_with m w p q

  earlier-same : (k : ℕ) → k ≤ section_count d → up_to (section_at d) k ≡ up_to (section_at f.descriptor) k
  earlier-same k l = turn-same _ _ k (λ i h. ap (λ (s : Section). s ∷ []) (same i (omega arith)))

  pub sections-same : sections near ≡ sections f
  unfolding sections
  sections-same = earlier-same (section_count d) (omega arith) ∙ ap (up_to (section_at f.descriptor)) count

  rules-same : (k : ℕ) → k < section_count d → section_rules bare near k ≡ section_rules full f k
  unfolding section_rules outside_broken
  rules-same k l = rw (same k l, earlier-same k (omega arith))

  row_same : in_turn (section_rules bare near) (section_count d) ≡ in_turn (section_rules full f) (section_count f.descriptor)
  row_same = turn-same _ _ (section_count d) (λ k l. rules-same k l) ∙ ap (in_turn (section_rules full f)) count

  last-same : last_rules bare near ≡ last_rules full f
  unfolding last_rules boot_broken handoff_broken pages_broken list_broken handoff_length
  last-same = rw sections-same

  layout-same : layout_of bare near ≡ layout_of full f
  unfolding layout_of handoff_length
  layout-same = rw (sections-same, count)

  pub laid_same : laid_out bare near ≡ laid_out full f
  unfolding laid_out
  laid_same = rw (row_same, last-same, layout-same)

-- ---- what the code counted

module _ (m : List ℕ) (L o : ℕ) (d : List ℕ) (count : ℕ) (is : count ≡ section_count d) where
  abbrev reading : Fields
  reading = fields_with L o d

  abbrev host : Host
  host = host_with m 0 0 0

  pub row-counted : judge (in_turn (section_rules host (fields_with L 0 d)) count) ≡ judge (in_turn (section_rules host reading) (section_count d))
  row-counted = sections-any m L o count d ∙ ap (λ (n : ℕ). judge (in_turn (section_rules host reading) n)) is

  module _ (table : List Section) (made : table ≡ up_to (section_at d) count) where
    table-is : table ≡ sections reading
    unfolding sections
    table-is = made ∙ ap (up_to (section_at d)) is

    pub records-few : (p : ℕ) → p ≡ length (pieces table (records m)) → count ≤ 32 → record_count m ≤ 64 → p ≤ 4160
    unfolding records
    records-few p e few low =
        let long : length table ≡ count = ap length made ∙ length-up_to (section_at d) count in
        omega (arith, pieces-few table (records m) (omega (arith, long)), long, length-up_to (record_at m) (record_count m))

    module _ (t : Totals) (p list : ℕ) (totals : t ≡ totals_of table)
        (counted : p ≡ length (pieces table (records m))) (long : list ≡ 56 + (48 * p + 8)) where
      totals-is : t ≡ totals_of (sections reading)
      totals-is = totals ∙ ap totals_of table-is

      list-is : list ≡ handoff_length host reading
      unfolding handoff_length list_length
      list-is =
          long ∙ ap (λ (n : ℕ). 56 + (48 * n + 8)) (counted ∙ ap (λ (ss : List Section). length (pieces ss (records m))) table-is)

      pub last-counted : judge (last_of t list) ≡ judge (last_rules host reading)
      last-counted = ap₂ (λ (u : Totals) (n : ℕ). judge (last_of u n)) totals-is list-is ∙ ap judge (last-is host reading)

      pub layout-counted : record { offset = o; count = count; pages = t.pages; handoff = list; address = t.address } ≡ layout_of host reading
      unfolding layout_of totals_of
      layout-counted = rw (totals-is, list-is, is)
