-- What the stages of the checks answer, in the terms that each of them has: what is read of the image from where its descriptor starts, and
-- totals in place of lists. proofs/Stage has that they are the launch's own.
-- Assumes nothing.
use Rattle.std.specs.Prelude.{◌≡◌, not, List, [], ◌∷◌, ◌++◌, ℕ, ltb, eqb, Result, Ok, Err}
use Rattle.std.specs.Result.{result_and}
use Rattle.verdict.specs.declared.Place.TheVariants.{Nowhere}
use Rattle.verdict.specs.declared.Refusal.{Refusal}
use Rattle.verdict.specs.Turns.{in_turn}
use Rattle.verdict.specs.Rules.{Rule, Verdict, rule, judge}
use Rattle.tdvf.specs.declared.Totals.{Totals}
use Rattle.tdvf.specs.Image.{Fields, fields_of, section_count}
use Rattle.launch.specs.declared.Layout.{Layout}
use Rattle.launch.specs.Host.{Host, host_with}
use Rattle.launch.specs.Rules.{section_rules, last_rules, layout_of, checked}

-- the verdict of a stage that answers a value where it breaks no rule
abbrev pub judged : {A : Type 0} → Result A Refusal → Verdict
judged (Ok x) = Ok tt
judged (Err r) = Err r

-- an image of which the length is read, where its descriptor starts and what stands from there on
abbrev pub fields_with : ℕ → ℕ → List ℕ → Fields
fields_with length offset descriptor = record { length = length; offset = offset; descriptor = descriptor }

-- rules 16 to 19, by what is counted
unfoldable pub last_of : Totals → ℕ → List Rule
last_of t list =
    rule 16 Nowhere (eqb t.boots 0) ∷
    rule 17 Nowhere (not (eqb t.handoffs 1)) ∷
    rule 18 Nowhere (ltb 4096 t.pages) ∷
    rule 19 Nowhere (ltb t.size list) ∷ []

-- rules 9 to 19, and what the writers need where none of them is broken
unfoldable pub laid_out : Host → Fields → Result Layout Refusal
laid_out h f =
    result_and (judge (in_turn (section_rules h f) (section_count f.descriptor) ++ last_rules h f)) (Ok (layout_of h f))

-- what the writers are handed: a layout that the checks answered for this image and this map, under some width, and buffers of the lengths that
-- were checked
pub record Sound (image map : List ℕ) (l : Layout) (plan handoff : ℕ) : Type 0 where
  pub width : ℕ
  pub is : checked (host_with map width plan handoff) (fields_of image) ≡ Ok l
