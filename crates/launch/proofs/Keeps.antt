-- Acceptance, taken apart once: what follows from it, by name. Assumes nothing.
use mathlib.Core.Path.{◌≡◌, ◌∙◌}
use mathlib.Core.List.{List, ◌++◌}
use Prim.Native.Nat.{ℕ, ◌<◌}
use Rattle.std.specs.Prelude.{Ok, Err}
use Rattle.verdict.specs.declared.Refusal.{Refusal}
use Rattle.verdict.specs.Turns.{in_turn}
use Rattle.verdict.specs.Rules.{Rule, judge}
use Rattle.verdict.proofs.Rules.{judge-then, judge-refused, judge-both, turns-each}
use Rattle.memory.specs.Map.{map_rules}
use Rattle.tdvf.specs.Image.{Fields, section_count, descriptor_rules}
use Rattle.launch.specs.Host.{Host}
use Rattle.launch.specs.Rules.{first_rules, section_rules, last_rules, rules, verdict}

-- the parts of the row, each without a broken rule
pub record Keeps (h : Host) (f : Fields) : Type 0 where
  pub first : judge (first_rules h f) ≡ Ok tt
  pub map : judge (map_rules h.width h.map) ≡ Ok tt
  pub descriptor : judge (descriptor_rules f) ≡ Ok tt
  pub sections : judge (in_turn (section_rules h f) (section_count f.descriptor)) ≡ Ok tt
  pub last : judge (last_rules h f) ≡ Ok tt

abbrev section_row : Host → Fields → List Rule
section_row h f = in_turn (section_rules h f) (section_count f.descriptor)

pub keeps : (h : Host) (f : Fields) → verdict h f ≡ Ok tt → Keeps h f
unfolding verdict rules
keeps h f e =
    let a = judge-both (first_rules h f) (map_rules h.width h.map ++ (descriptor_rules f ++ (section_row h f ++ last_rules h f))) e in
    let b = judge-both (map_rules h.width h.map) (descriptor_rules f ++ (section_row h f ++ last_rules h f)) a.1 in
    let c = judge-both (descriptor_rules f) (section_row h f ++ last_rules h f) b.1 in
    let d = judge-both (section_row h f) (last_rules h f) c.1 in
    record { first = a.0; map = b.0; descriptor = c.0; sections = d.0; last = d.1 }

pub section-keeps : (h : Host) (f : Fields) (k : ℕ) → Keeps h f → k < section_count f.descriptor → judge (section_rules h f k) ≡ Ok tt
section-keeps h f k e l = turns-each (section_rules h f) (section_count f.descriptor) k e.sections l

-- ---- the verdict by stages: each stage that keeps its rules hands on to the next, and the first that does not is the verdict

module _ (h : Host) (f : Fields) where
  pub stops_first : (r : Refusal) → judge (first_rules h f) ≡ Err r → verdict h f ≡ Err r
  unfolding verdict rules
  stops_first r e = judge-refused (first_rules h f) _ r e

  module _ (first : judge (first_rules h f) ≡ Ok tt) where
    pub stops-map : (r : Refusal) → judge (map_rules h.width h.map) ≡ Err r → verdict h f ≡ Err r
    unfolding verdict rules
    stops-map r e = judge-then (first_rules h f) _ first ∙ judge-refused (map_rules h.width h.map) _ r e

    module _ (map : judge (map_rules h.width h.map) ≡ Ok tt) where
      pub stops-descriptor : (r : Refusal) → judge (descriptor_rules f) ≡ Err r → verdict h f ≡ Err r
      unfolding verdict rules
      stops-descriptor r e =
          judge-then (first_rules h f) _ first ∙ judge-then (map_rules h.width h.map) _ map ∙ judge-refused (descriptor_rules f) _ r e

      module _ (descriptor : judge (descriptor_rules f) ≡ Ok tt) where
        -- the rows that are left
        pub ends-rows : verdict h f ≡ judge (section_row h f ++ last_rules h f)
        unfolding verdict rules
        ends-rows =
            judge-then (first_rules h f) _ first ∙ judge-then (map_rules h.width h.map) _ map ∙ judge-then (descriptor_rules f) _ descriptor

        pub stops-sections : (r : Refusal) → judge (section_row h f) ≡ Err r → verdict h f ≡ Err r
        stops-sections r e = ends-rows ∙ judge-refused (section_row h f) _ r e

        pub ends_last : judge (section_row h f) ≡ Ok tt → verdict h f ≡ judge (last_rules h f)
        ends_last sections = ends-rows ∙ judge-then (section_row h f) _ sections
