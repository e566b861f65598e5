-- `plan::page_of` meets its contract: the fields are those of the definition, and the numbers fit them. Assumes nothing.
use Prim.Native.Nat.{◌^◌}
use native.Mathlib.Omega.{arith}
use Rattle.plan.proofs.Share.{source-end, length_most, offset-below}
use Rattle.plan.proofs.page_of.Goals as goal

pub data_offset-requires : goal.data_offset-requires
data_offset-requires c =
    let a = c.args in
    let e = c.source_of-source.ensures in
    (omega arith, rw e (omega (arith, source-end a.handoff a.s (2 ^ 32) (omega arith) (omega arith))))

pub overflow_cast-result : goal.overflow_cast-result
overflow_cast-result c =
    let a = c.args in
    let d = c.source_of-source in
    record {
      fits = rw c.data_offset.ensures (offset-below d.result a.k (2 ^ 32) (omega arith)
          (rw d.ensures (source-end a.handoff a.s (2 ^ 32) (omega arith) (omega arith))));
    }

pub overflow_cast-result-2 : goal.overflow_cast-result-2
overflow_cast-result-2 c =
    let a = c.args in
    record { fits = omega (arith, c.data_length.ensures, length_most c.source_of-source.result a.k) }
