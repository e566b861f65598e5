-- Page 01, "Order of the rules": the number and the place of each refusal. Assumes nothing.
use Rattle.std.specs.Prelude.{ℕ, ◌-◌, List, [], ◌∷◌, get_or, Option, None, Some}
use Rattle.verdict.specs.declared.Place.{Place}
use Rattle.verdict.specs.declared.Place.TheVariants.{Nowhere}
use Rattle.verdict.specs.declared.Refusal.{Refusal}
use Rattle.verdict.specs.declared.Refusal.TheVariants as is

-- the page's number of a refusal; 0 where nothing is refused
unfoldable pub number : Option Refusal → ℕ
number None = 0
number (Some (is.Buffers p)) = 1
number (Some (is.Width p)) = 2
number (Some (is.Length p)) = 3
number (Some (is.Map p)) = 4
number (Some (is.Offset p)) = 5
number (Some (is.Signature p)) = 6
number (Some (is.Version p)) = 7
number (Some (is.Descriptor p)) = 8
number (Some (is.Type p)) = 9
number (Some (is.Attributes p)) = 10
number (Some (is.Raw p)) = 11
number (Some (is.Data p)) = 12
number (Some (is.Memory p)) = 13
number (Some (is.Outside p)) = 14
number (Some (is.Shared p)) = 15
number (Some (is.Boot p)) = 16
number (Some (is.Handoff p)) = 17
number (Some (is.Pages p)) = 18
number (Some (is.List p)) = 19

-- the place of a refusal; none where nothing is refused
unfoldable pub place : Option Refusal → Place
place None = Nowhere
place (Some (is.Buffers p)) = p
place (Some (is.Width p)) = p
place (Some (is.Length p)) = p
place (Some (is.Map p)) = p
place (Some (is.Offset p)) = p
place (Some (is.Signature p)) = p
place (Some (is.Version p)) = p
place (Some (is.Descriptor p)) = p
place (Some (is.Type p)) = p
place (Some (is.Attributes p)) = p
place (Some (is.Raw p)) = p
place (Some (is.Data p)) = p
place (Some (is.Memory p)) = p
place (Some (is.Outside p)) = p
place (Some (is.Shared p)) = p
place (Some (is.Boot p)) = p
place (Some (is.Handoff p)) = p
place (Some (is.Pages p)) = p
place (Some (is.List p)) = p

-- the refusals by their numbers, from 1 on, each waiting for its place
refusals : List (Place → Refusal)
refusals =
    is.Buffers ∷
    is.Width ∷
    is.Length ∷
    is.Map ∷
    is.Offset ∷
    is.Signature ∷
    is.Version ∷
    is.Descriptor ∷
    is.Type ∷
    is.Attributes ∷
    is.Raw ∷
    is.Data ∷
    is.Memory ∷
    is.Outside ∷
    is.Shared ∷
    is.Boot ∷
    is.Handoff ∷
    is.Pages ∷
    is.List ∷
    []

-- the refusal with a number and a place. No rule has a number that is not the page's: `Numbered` of specs/Rules
unfoldable pub refusal_of : ℕ → Place → Refusal
unfolding refusals
refusal_of n p = get_or refusals (n - 1) is.List p
