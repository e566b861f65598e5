-- The table's places: rules 9 to 15 name a section of the image, counted from 0, and the others none. Assumes nothing.
use mathlib.Core.Path.{◌≡◌, refl}
use mathlib.Core.Bool.{Bool}
use mathlib.Core.Logic.{◌⊎◌, inl, inr}
use mathlib.Core.List.{List, [], ◌∷◌, map as each}
use Prim.Native.Nat.{ℕ, ◌≤◌, ◌<◌}
use lib.Dec.{lit≤}
use Rattle.verdict.specs.declared.Place.TheVariants.{Nowhere, Section}
use Rattle.verdict.specs.Rules.{Rule, rule}
use Rattle.verdict.specs.Turns.{in_turn}
use Rattle.verdict.proofs.Each.{Each, each_none, each-cons, each_append, each_turn}
use Rattle.memory.specs.declared.Cause.{Cause}
use Rattle.memory.specs.declared.Cause.TheVariants as cause
use Rattle.memory.specs.Map.{Tried, cause_number, cause_place, as_rule, map_tried, map_rules}
use Rattle.tdvf.specs.Image.{Fields, section_count, descriptor_rules}
use Rattle.tdvf.specs.Section.{image_rules}
use Rattle.launch.specs.Host.{Host}
use Rattle.launch.specs.Rules.{first_rules, section_rules, last_rules, rules}

-- a rule of a launch with so many sections, by its number: 1 to 8 and 16 to 19 have no place, 9 to 15 a section that there is
abbrev pub Placed : ℕ → Rule → Type 0
Placed count r =
    (((r.number ≤ 8) ⊎ (16 ≤ r.number)) × (r.place ≡ Nowhere))
    ⊎ ((9 ≤ r.number) × (r.number ≤ 15) × ((k : ℕ) × (k < count) × (r.place ≡ Section k)))

cause-early : (c : Cause) → cause_number c ≤ 8
unfolding cause_number
cause-early cause.Count = lit≤ tt
cause-early cause.Multiple = lit≤ tt
cause-early cause.End = lit≤ tt
cause-early cause.Kind = lit≤ tt
cause-early cause.Order = lit≤ tt

cause-nowhere : (c : Cause) (i : ℕ) → cause_place c i ≡ Nowhere
unfolding cause_place
cause-nowhere cause.Count i = refl
cause-nowhere cause.Multiple i = refl
cause-nowhere cause.End i = refl
cause-nowhere cause.Kind i = refl
cause-nowhere cause.Order i = refl

module _ (count : ℕ) where
  early : (n : ℕ) (b : Bool) (rs : List Rule) → n ≤ 8 → Each (Placed count) rs → Each (Placed count) (rule n Nowhere b ∷ rs)
  early n b rs l h = (each-cons _ (rule n Nowhere b) rs).1 (inl (inl l, refl), h)

  late : (n : ℕ) (b : Bool) (rs : List Rule) → 16 ≤ n → Each (Placed count) rs → Each (Placed count) (rule n Nowhere b ∷ rs)
  late n b rs l h = (each-cons _ (rule n Nowhere b) rs).1 (inl (inr l, refl), h)

  of-section : (k : ℕ) → k < count → (n : ℕ) (b : Bool) (rs : List Rule) → 9 ≤ n → n ≤ 15 → Each (Placed count) rs
      → Each (Placed count) (rule n (Section k) b ∷ rs)
  of-section k l n b rs low high h = (each-cons _ (rule n (Section k) b) rs).1 (inr (low, high, (k, l, refl)), h)

  map-placed : (width : ℕ) (map : List ℕ) → Each (Placed count) (map_rules width map)
  unfolding map_rules
  map-placed width map = rows (map_tried width map)
    where
      rows : (ts : List Tried) → Each (Placed count) (each as_rule ts)
      rows [] = each_none _
      rows (t ∷ ts) = (each-cons _ (as_rule t) (each as_rule ts)).1 (inl (inl (cause-early t.cause), cause-nowhere t.cause t.at), rows ts)

  section-placed : (h : Host) (f : Fields) (k : ℕ) → k < count → Each (Placed count) (section_rules h f k)
  unfolding section_rules image_rules
  section-placed h f k l =
      of-section k l 9 _ _ (lit≤ tt) (lit≤ tt)
      (of-section k l 10 _ _ (lit≤ tt) (lit≤ tt)
      (of-section k l 11 _ _ (lit≤ tt) (lit≤ tt)
      (of-section k l 12 _ _ (lit≤ tt) (lit≤ tt)
      (of-section k l 13 _ _ (lit≤ tt) (lit≤ tt)
      (of-section k l 14 _ _ (lit≤ tt) (lit≤ tt) (of-section k l 15 _ _ (lit≤ tt) (lit≤ tt) (each_none _)))))))

-- THE THEOREM: every rule of the row has the place that the table gives it
pub placed : (h : Host) (f : Fields) → Each (Placed (section_count f.descriptor)) (rules h f)
unfolding rules first_rules descriptor_rules last_rules
placed h f =
    let n = section_count f.descriptor in
    (each_append _ (first_rules h f) _).1 (
      early n 1 _ _ (lit≤ tt) (early n 2 _ _ (lit≤ tt) (early n 3 _ _ (lit≤ tt) (each_none _))),
      (each_append _ (map_rules h.width h.map) _).1 (
        map-placed n h.width h.map,
        (each_append _ (descriptor_rules f) _).1 (
          early n 5 _ _ (lit≤ tt) (early n 6 _ _ (lit≤ tt) (early n 7 _ _ (lit≤ tt) (early n 8 _ _ (lit≤ tt) (each_none _)))),
          (each_append _ (in_turn (section_rules h f) n) (last_rules h f)).1 (
            (each_turn _ (section_rules h f) n).1 (λ k l. section-placed n h f k l),
            late n 16 _ _ (lit≤ tt) (late n 17 _ _ (lit≤ tt) (late n 18 _ _ (lit≤ tt) (late n 19 _ _ (lit≤ tt) (each_none _)))),
          ),
        ),
      ),
    )
