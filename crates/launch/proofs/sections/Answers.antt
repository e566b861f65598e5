-- `launch::sections`: the goals that are answered by hand. Invariants.antt says why it meets its contract. Assumes nothing.
use mathlib.Core.Path.{◌≡◌, refl, sym, ap, ◌∙◌}
use mathlib.Core.Bool.{true, false}
use Prim.Native.Nat.{ℕ}
use native.Mathlib.Omega.{arith}
use Rattle.verdict.proofs.Rules.{turns-none, turns_next}
use Rattle.tdvf.specs.declared.Section.{Section}
use Rattle.tdvf.specs.Section.{shares, shared_broken}
use Rattle.verdict.specs.Turns.{in_turn, up_to}
use Rattle.verdict.specs.Rules.{judge}
use Rattle.tdvf.specs.Image.{section_at}
use Rattle.launch.specs.Host.{host_with}
use Rattle.launch.specs.Rules.{section_rules}
use Rattle.launch.specs.Stages.{fields_with}
use Rattle.launch.proofs.Stage.{row-image, row-outside, row_shared, row_kept, own_is, not-inside, is-inside, stops_at, apart_none, apart_more, met-among}
use Rattle.launch.proofs.sections.Goals as goal

pub sections-init : goal.sections-init
sections-init c =
    let a = c.args in
    (refl, turns-none (section_rules (host_with a.map.now 0 0 0) (fields_with a.length 0 a.descriptor.now)))

pub loop-j-init : goal.loop-j-init
loop-j-init c =
    let a = c.args in
    (c.sections.invariant.0, apart_none a.descriptor.now c.section_at-s.result)

pub loop-j-preserved : goal.loop-j-preserved
loop-j-preserved c =
    let a = c.args in
    let l = c.loop-j in
    let s = c.section_at-s.result in
    let e : shares (section_at a.descriptor.now l.j) s ≡ false =
    ap (λ (t : Section). shares t s) (sym c.section_at.ensures) ∙ sym c.meet.ensures ∙ c.if-meet.false in
    (l.invariant.0, apart_more a.descriptor.now l.j s l.invariant.1 e)

pub sections-preserved : goal.sections-preserved
sections-preserved c =
    let a = c.args in
    let h = host_with a.map.now 0 0 0 in
    let f = fields_with a.length 0 a.descriptor.now in
    let k = c.sections.k in
    let s = c.section_at-s in
    let i = c.image_verdict-own in
    let own = own_is h f k s.result s.ensures i.result i.ensures in
    let w = c.firmware_allowed in
    let l = c.lies_in-lies in
    let none = sym own ∙ c.in-Ok.is in
    let j = c.loop-j in
    let this = section_at a.descriptor.now in
    let all : j.j ≡ k = omega arith in
    let apart : shared_broken (up_to this k) (this k) ≡ false =
    ap (λ (n : ℕ). shared_broken (up_to this n) (this k)) (sym all)
    ∙ ap (λ (t : Section). shared_broken (up_to this j.j) t) (sym s.ensures) ∙ j.invariant.1 in (
      j.invariant.0,
      turns_next (section_rules h f) k c.sections.invariant.1
          (row_kept h f k none (is-inside h f k s.result s.ensures w.result w.ensures l.result l.ensures c.in-Some.field-0 c.in-Some.is) apart),
    )

pub returns-after-sections : goal.returns-after-sections
returns-after-sections c =
    let a = c.args in
    let h = host_with a.map.now 0 0 0 in
    let f = fields_with a.length 0 a.descriptor.now in
    let all : c.sections.k ≡ a.count = omega arith in
    c.sections.invariant.0 ∙ sym c.sections.invariant.1 ∙ ap (λ (n : ℕ). judge (in_turn (section_rules h f) n)) all

pub returns-in_default : goal.returns-in_default
returns-in_default c =
    let a = c.args in
    let h = host_with a.map.now 0 0 0 in
    let f = fields_with a.length 0 a.descriptor.now in
    let k = c.sections.k in
    let s = c.section_at-s in
    let i = c.image_verdict-own in
    let own = own_is h f k s.result s.ensures i.result i.ensures in
    c.in_default.is
    ∙ stops_at h f k a.count _ c.sections.invariant.1 (omega arith) (row-image h f k _ (sym own ∙ c.in_default.is))

pub returns-in_default-lies : goal.returns-in_default-lies
returns-in_default-lies c =
    let a = c.args in
    let h = host_with a.map.now 0 0 0 in
    let f = fields_with a.length 0 a.descriptor.now in
    let k = c.sections.k in
    let s = c.section_at-s in
    let i = c.image_verdict-own in
    let own = own_is h f k s.result s.ensures i.result i.ensures in
    let w = c.firmware_allowed in
    let l = c.lies_in-lies in
    let none = sym own ∙ c.in-Ok.is in
    stops_at h f k a.count _ c.sections.invariant.1 (omega arith)
    (row-outside h f k none (not-inside h f k s.result s.ensures w.result w.ensures l.result l.ensures c.in_default-lies.is))

pub returns-then-meet : goal.returns-then-meet
returns-then-meet c =
    let a = c.args in
    let h = host_with a.map.now 0 0 0 in
    let f = fields_with a.length 0 a.descriptor.now in
    let k = c.sections.k in
    let s = c.section_at-s in
    let i = c.image_verdict-own in
    let own = own_is h f k s.result s.ensures i.result i.ensures in
    let w = c.firmware_allowed in
    let l = c.lies_in-lies in
    let none = sym own ∙ c.in-Ok.is in
    let j = c.loop-j in
    let this = section_at a.descriptor.now in
    let met : shares (this j.j) (this k) ≡ true =
    ap (λ (t : Section). shares (this j.j) t) (sym s.ensures) ∙ ap (λ (t : Section). shares t s.result) (sym c.section_at.ensures)
    ∙ sym c.meet.ensures ∙ c.if-meet.true in
    let apart : shared_broken (up_to this j.j) (this k) ≡ false =
    ap (λ (t : Section). shared_broken (up_to this j.j) t) (sym s.ensures) ∙ j.invariant.1 in
    stops_at h f k a.count _ c.sections.invariant.1 c.sections-test.true
    (row_shared h f k none (is-inside h f k s.result s.ensures w.result w.ensures l.result l.ensures c.in-Some.field-0 c.in-Some.is) (met-among a.descriptor.now j.j (this k) apart k (omega arith) met))
