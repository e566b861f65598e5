-- `tdvf::locate` meets its contract. The slice that it hands on is the part of the image that starts at the descriptor, whose rules
-- are those of the whole image where rule 5 is kept; what they answer is handed up, or the descriptor is found. Assumes nothing.
use mathlib.Core.Path.{sym, ap₂, ◌∙◌}
use Prim.Native.Nat.{ℕ}
use native.Mathlib.Omega.{arith}
use Rattle.std.specs.Prelude.{Ok}
use Rattle.std.proofs.lemmas.Result.{err_from_is_err_and}
use Rattle.tdvf.specs.Image.{fields_of}
use Rattle.tdvf.proofs.Descriptor.{fields-offset, offset-broken, handed-on, counted-on, located-found, located-refused, located-offset, at}
use Rattle.tdvf.proofs.locate.Goals as goal

pub returns-then-last-d : goal.returns-then-last-d
returns-then-last-d c =
    let image = c.args.image.now in
    let d = c.offset_word-d in
    sym (located-offset (fields_of image) (offset-broken image d.result d.ensures (omega arith)))

pub returns-in_err-descriptor_verdict : goal.returns-in_err-descriptor_verdict
returns-in_err-descriptor_verdict c =
    let image = c.args.image.now in
    let d = c.offset_word-d in
    let p = err_from_is_err_and c.from_residual.result c.from_residual.ensures.1 in
    let refused = sym (handed-on image d.result d.ensures (omega arith)) ∙ sym c.descriptor_verdict.ensures ∙ c.in_err-descriptor_verdict.was in
    rw (p.1, p.2) (sym (located-refused (fields_of image) _ refused))

pub returns : goal.returns
returns c =
    let image = c.args.image.now in
    let d = c.offset_word-d in
    let kept = sym (handed-on image d.result d.ensures (omega arith)) ∙ sym c.descriptor_verdict.ensures ∙ c.in_ok-descriptor_verdict.was in
    ap₂ (λ (a n : ℕ). Ok (at a n)) (d.ensures ∙ sym (fields-offset image)) (c.section_count.ensures ∙ counted-on image d.result d.ensures)
    ∙ sym (located-found (fields_of image) kept)
