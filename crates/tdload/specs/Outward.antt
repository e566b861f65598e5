-- The answers of a launch, of the page view and of a turn as C has them: numbers in place of enums. Assumes nothing.
use Rattle.std.specs.Prelude.{List, [], ◌∷◌, ℕ, zero, suc, eqb, length, get_or, take, drop, replicate, None}
use Rattle.verdict.specs.declared.Place.{Place}
use Rattle.verdict.specs.declared.Place.TheVariants.{Nowhere, Section, Record}
use Rattle.verdict.specs.Refusal.{number, place}
use Rattle.verdict.specs.Rules.{pick}
use Rattle.plan.specs.View.{view}
use Rattle.sha384.specs.declared.State as of-hash
use Rattle.measure.specs.declared.Progress.{Progress}
use Rattle.measure.specs.declared.Turned as of-turned
use Rattle.measure.specs.Turn.{turn_number, turn_place, turned}
use Rattle.launch.specs.declared.Answer as of
use Rattle.launch.specs.declared.Begun as of-begun
use Rattle.tdload.specs.declared.Answer.{Answer}
use Rattle.tdload.specs.declared.View.{View}
use Rattle.tdload.specs.declared.State.{State}
use Rattle.tdload.specs.declared.Begun.{Begun}
use Rattle.tdload.specs.declared.Turned.{Turned}

-- "0 none, 1 section, 2 map record"
unfoldable pub place_number : Place → ℕ
place_number Nowhere = 0
place_number (Section k) = 1
place_number (Record k) = 2

-- "of the section or record; 0 where there is none"
unfoldable pub place_index : Place → ℕ
place_index Nowhere = 0
place_index (Section k) = k
place_index (Record k) = k

-- the answer of a launch
unfoldable pub outward : of.Answer → Answer
outward a =
    record {
      refusal = number a.refusal;
      place = place_number (place a.refusal);
      index = place_index (place a.refusal);
      pages = a.pages;
      handoff = a.handoff;
      blocks = a.blocks;
      measurement = a.measurement;
    }

-- which of the two slices a record's bytes are in, by its type: 1 the image, 2 the HOB list, 0 neither
unfoldable pub slice_number : ℕ → ℕ
slice_number zero = 1
slice_number (suc zero) = 1
slice_number (suc (suc zero)) = 2
slice_number (suc (suc (suc sort))) = 0

-- where the page view's part is: which slice, from where and how long; zeros for an empty part
unfoldable pub viewed : List ℕ → List ℕ → ℕ → ℕ → ℕ → View
viewed image handoff offset size sort =
    pick (eqb (length (view image handoff offset size sort)) 0)
    (record { slice = 0; offset = 0; length = 0 })
    (record { slice = slice_number sort; offset = offset; length = size })

-- the part that such an answer names
unfoldable pub named : List ℕ → List ℕ → View → List ℕ
named image handoff v = take v.length (drop v.offset (by_slice v.slice))
  where
    by_slice : ℕ → List ℕ
    by_slice zero = []
    by_slice (suc zero) = image
    by_slice (suc (suc n)) = handoff

-- ---- the measurement in turns

-- a hash value's eight words, in their order, and back
unfoldable pub words_of : of-hash.State → List ℕ
words_of s = s.a ∷ s.b ∷ s.c ∷ s.d ∷ s.e ∷ s.f ∷ s.g ∷ s.h ∷ []

unfoldable pub hash_of : List ℕ → of-hash.State
hash_of w =
    record {
      a = get_or w 0 0;
      b = get_or w 1 0;
      c = get_or w 2 0;
      d = get_or w 3 0;
      e = get_or w 4 0;
      f = get_or w 5 0;
      g = get_or w 6 0;
      h = get_or w 7 0;
    }

-- a state
unfoldable pub state_of : Progress → State
state_of p =
    record {
      hash = words_of p.hash;
      done = p.done;
      total = p.total;
      image = p.image;
      plan = p.plan;
      refusal = number p.refusal;
      place = place_number (place p.refusal);
      index = place_index (place p.refusal);
    }

-- and back, where it is not refused
unfoldable pub progress_of : State → Progress
progress_of s = record { hash = hash_of s.hash; done = s.done; total = s.total; image = s.image; plan = s.plan; refusal = None }

-- what the start answers
unfoldable pub outward_begun : of-begun.Begun → Begun
outward_begun b = record { answer = outward b.answer; state = state_of b.progress }

-- a state with another hash value and count: nothing else of it changes in a turn
unfoldable pub moved : State → Progress → State
moved s p =
    record {
      hash = words_of p.hash;
      done = p.done;
      total = s.total;
      image = s.image;
      plan = s.plan;
      refusal = s.refusal;
      place = s.place;
      index = s.index;
    }

-- what a turn answers, with the state for the next
unfoldable pub turned_with : State → of-turned.Turned → Turned
turned_with s t =
    record {
      state = s;
      refusal = turn_number t.refusal;
      place = place_number (turn_place t.refusal);
      index = place_index (turn_place t.refusal);
      blocks = t.blocks;
      measurement = t.measurement;
    }

-- a refused state answers its refusal as it stands, whatever number that is
unfoldable pub standing : State → Turned
standing s = record { state = s; refusal = s.refusal; place = s.place; index = s.index; blocks = 0; measurement = replicate 48 0 }

-- a turn on any state: "the launch's refusal .. before anything else"
unfoldable pub turn_answer : State → List ℕ → List ℕ → ℕ → Turned
turn_answer s image plan q =
    let t = turned (progress_of s) image plan q in pick (eqb s.refusal 0) (turned_with (moved s t.next) t) (standing s)
