-- The verdict computed: the first of two broken rules is answered, with its own place. Assumes nothing.
use mathlib.Core.Path.{◌≡◌, refl}
use mathlib.Core.Bool.{true, false}
use mathlib.Core.List.{List, [], ◌∷◌}
use Rattle.std.specs.Prelude.{Ok, Err}
use Prim.Native.Nat.{◌+◌}
use Rattle.verdict.specs.declared.Place.TheVariants.{Nowhere, Section}
use Rattle.verdict.specs.declared.Refusal.TheVariants as is
use Rattle.verdict.specs.declared.Refusal.TheVariants.{Data}
use Rattle.verdict.specs.Refusal.{refusal_of}
use Rattle.verdict.specs.Turns.{in_turn, up_to}
use Rattle.verdict.specs.Rules.{Rule, rule, judge}

pub row : List Rule
row = rule 7 Nowhere false ∷ rule 12 (Section 1) true ∷ rule 13 (Section 0) true ∷ []

pub first-of-two : judge row ≡ Err (refusal_of 12 (Section 1))
unfolding row judge
first-of-two = refl

pub data-of-one : refusal_of 12 (Section 1) ≡ Data (Section 1)
unfolding refusal_of
data-of-one = refl

pub none-broken : judge (rule 7 Nowhere false ∷ []) ≡ Ok tt
unfolding judge
none-broken = refl

-- the page's table: the refusals by their names, in the order of their numbers
pub by_name : up_to (λ i. refusal_of (i + 1) Nowhere) 19 ≡
    is.Buffers Nowhere ∷
    is.Width Nowhere ∷
    is.Length Nowhere ∷
    is.Map Nowhere ∷
    is.Offset Nowhere ∷
    is.Signature Nowhere ∷
    is.Version Nowhere ∷
    is.Descriptor Nowhere ∷
    is.Type Nowhere ∷
    is.Attributes Nowhere ∷
    is.Raw Nowhere ∷
    is.Data Nowhere ∷
    is.Memory Nowhere ∷
    is.Outside Nowhere ∷
    is.Shared Nowhere ∷
    is.Boot Nowhere ∷
    is.Handoff Nowhere ∷
    is.Pages Nowhere ∷
    is.List Nowhere ∷
    []
unfolding in_turn refusal_of
by_name = refl
