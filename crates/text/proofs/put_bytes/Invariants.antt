-- `text::put_bytes` meets its contract. At each turn, writing the bytes that are left gives the buffer that the contract names; a turn
-- writes the first of these, and with none left the buffer is it. Assumes nothing.
use mathlib.Core.Path.{◌≡◌}
use Prim.Native.Nat.{◌*◌}
use lib.ListN.{drop}
use lib.Seq.{sets}
use Rattle.text.specs.Text.{bytes_text}
use Rattle.text.proofs.put_bytes.Given as goal

abbrev pub invariant-loop-k : goal.invariant-loop-k
invariant-loop-k l = sets l.buffer (2 * l.k) (bytes_text (drop l.k l.bytes)) ≡ sets l.initial.buffer 0 (bytes_text l.bytes)
