-- `wire::put` meets its contract. At each turn, writing the bytes of what is left of the value, from the next place on, gives
-- the buffer that the contract names; a turn writes the first of these bytes, and with none left the buffer is it. Assumes nothing.
use mathlib.Core.Path.{◌≡◌}
use Prim.Native.Nat.{◌-◌}
use lib.ListN.{length}
use lib.Seq.{sets}
use Rattle.wire.specs.Number.{le}
use Rattle.wire.proofs.put.Given as goal

abbrev pub invariant-loop-byte : goal.invariant-loop-byte
invariant-loop-byte l =
    sets l.byte-items l.byte-index (le (length l.fn.part - l.byte-index) l.rest) ≡ le (length l.fn.part) l.value
