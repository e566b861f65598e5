-- `tdvf::Sections::next` gives the section at its place, and nothing from the end on. Assumes nothing.
use mathlib.Core.Path.{◌≡◌, sym, ap, ◌∙◌}
use mathlib.Core.List.{[], ◌∷◌}
use Prim.Native.Nat.{◌+◌, ◌≤◌, ◌<◌}
use native.Mathlib.Omega.{arith}
use borrow.Author.Rules.{rules}
use lib.ListN.{drop}
use Rattle.verdict.specs.Turns.{up_to}
use Rattle.tdvf.specs.declared.Section.{Section}
use Rattle.tdvf.specs.Image.{section_at}
use Rattle.tdvf.proofs.Rest.{rest-none, rest_more}
use Rattle.tdvf.proofs.SectionsIterator.next.Goals as goal

pub returns-then-self-clause-steps : goal.returns-then-self-clause-steps
returns-then-self-clause-steps c =
    let s = c.self.inside in
    let f = section_at s.descriptor.now in
    let over : s.count ≤ s.next = omega arith in
    let none : c.args.self.now ≡ [] = sym c.self.view_is ∙ rest-none f s.count s.next over in
    (none, none)

pub returns-clause-steps : goal.returns-clause-steps
returns-clause-steps c =
    let s = c.self.inside in
    let f = section_at s.descriptor.now in
    let h : s.next < s.count = omega arith in
    sym c.self.view_is ∙ rest_more f s.count s.next h ∙ ap (λ (x : Section). x ∷ drop (s.next + 1) (up_to f s.count)) (sym c.section_at-s.ensures)

pub returns-clause-goes : goal.returns-clause-goes
returns-clause-goes c =
    let s = c.self.inside in
    let f = section_at s.descriptor.now in
    let h : s.next < s.count = omega arith in
    rw (← c.self.view_is, rest_more f s.count s.next h) (search rules)
