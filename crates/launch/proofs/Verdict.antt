-- The row of rules of a launch: accepted exactly if none is broken, and a refusal is the first that is. Assumes nothing.
use mathlib.Core.Path.{◌≡◌}
use mathlib.Core.Bool.{true}
use mathlib.Core.List.{List}
use mathlib.Core.Logic.{◌↔◌}
use Prim.Native.Nat.{ℕ}
use lib.Dec.{lit≤}
use Rattle.std.specs.Prelude.{Ok}
use Rattle.verdict.specs.Turns.{in_turn}
use Rattle.verdict.specs.Rules.{judge, Kept, Numbered}
use Rattle.verdict.proofs.Each.{each_none}
use Rattle.verdict.proofs.Rules.{ok-kept}
use Rattle.verdict.proofs.Verdict.{accepted-exactly, refused-first, named, First, Named, numbered-append, numbered-turns, numbered-cons}
use Rattle.memory.proofs.Numbered.{map-numbered}
use Rattle.memory.specs.Map.{map_rules}
use Rattle.tdvf.specs.Image.{Fields, fields_of, section_count, descriptor_rules}
use Rattle.tdvf.specs.Section.{image_rules}
use Rattle.launch.specs.Host.{Host}
use Rattle.launch.specs.Rules.{first_rules, section_rules, last_rules, rules, verdict}
use Rattle.launch.specs.Launch.{accepted}

-- "A launch is accepted exactly if no rule of the page is broken"
pub accepted-kept : (h : Host) (image : List ℕ) → (accepted h image ≡ true) ↔ Kept (rules h (fields_of image))
unfolding accepted verdict
accepted-kept h image =
    let test = ok-kept (judge (rules h (fields_of image))) in
    let exactly = accepted-exactly (rules h (fields_of image)) in
    (λ e. exactly.0 (test.0 e), λ k. test.1 (exactly.1 k))

-- a refusal names a broken rule, and every rule before it is kept
pub verdict-first : (h : Host) (f : Fields) → (verdict h f ≡ Ok tt → ⊥) → First (rules h f)
unfolding verdict
verdict-first h f refused = refused-first (rules h f) refused

-- ---- each rule of the row has one of the page's numbers

first-numbered : (h : Host) (f : Fields) → Numbered (first_rules h f)
unfolding first_rules
first-numbered h f =
    numbered-cons 1 _ _ _ (lit≤ tt) (lit≤ tt) (numbered-cons 2 _ _ _ (lit≤ tt) (lit≤ tt) (numbered-cons 3 _ _ _ (lit≤ tt) (lit≤ tt) (each_none _)))

descriptor-numbered : (f : Fields) → Numbered (descriptor_rules f)
unfolding descriptor_rules
descriptor-numbered f =
    numbered-cons 5 _ _ _ (lit≤ tt) (lit≤ tt)
    (numbered-cons 6 _ _ _ (lit≤ tt) (lit≤ tt) (numbered-cons 7 _ _ _ (lit≤ tt) (lit≤ tt) (numbered-cons 8 _ _ _ (lit≤ tt) (lit≤ tt) (each_none _))))

section-numbered : (h : Host) (f : Fields) (k : ℕ) → Numbered (section_rules h f k)
unfolding section_rules image_rules
section-numbered h f k =
    numbered-cons 9 _ _ _ (lit≤ tt) (lit≤ tt)
    (numbered-cons 10 _ _ _ (lit≤ tt) (lit≤ tt)
    (numbered-cons 11 _ _ _ (lit≤ tt) (lit≤ tt)
    (numbered-cons 12 _ _ _ (lit≤ tt) (lit≤ tt)
    (numbered-cons 13 _ _ _ (lit≤ tt) (lit≤ tt)
    (numbered-cons 14 _ _ _ (lit≤ tt) (lit≤ tt) (numbered-cons 15 _ _ _ (lit≤ tt) (lit≤ tt) (each_none _)))))))

last-numbered : (h : Host) (f : Fields) → Numbered (last_rules h f)
unfolding last_rules
last-numbered h f =
    numbered-cons 16 _ _ _ (lit≤ tt) (lit≤ tt)
    (numbered-cons 17 _ _ _ (lit≤ tt) (lit≤ tt) (numbered-cons 18 _ _ _ (lit≤ tt) (lit≤ tt) (numbered-cons 19 _ _ _ (lit≤ tt) (lit≤ tt) (each_none _))))

pub rules-numbered : (h : Host) (f : Fields) → Numbered (rules h f)
unfolding rules
rules-numbered h f =
    (numbered-append (first_rules h f) _).1 (
      first-numbered h f,
      (numbered-append (map_rules h.width h.map) _).1 (
        map-numbered h.width h.map,
        (numbered-append (descriptor_rules f) _).1 (
          descriptor-numbered f,
          (numbered-append (in_turn (section_rules h f) (section_count f.descriptor)) (last_rules h f)).1
              ((numbered-turns (section_rules h f) (section_count f.descriptor)).1 (λ k l. section-numbered h f k), last-numbered h f),
        ),
      ),
    )

-- so a refusal has the number and the place of the first broken rule
pub verdict-named : (h : Host) (f : Fields) (refused : verdict h f ≡ Ok tt → ⊥) → Named (rules h f) (verdict-first h f refused)
verdict-named h f refused = named (rules h f) (rules-numbered h f) (verdict-first h f refused)
