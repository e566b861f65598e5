-- `text::put_digits` meets its contract. At each turn, writing the digits of the rest that are left gives the buffer that the contract
-- names; a turn writes the last of these digits, and with none left the buffer is it. Assumes nothing.
use mathlib.Core.Path.{◌≡◌}
use lib.Seq.{sets}
use Rattle.text.specs.Text.{digits}
use Rattle.text.proofs.put_digits.Given as goal

abbrev pub invariant-loop-k : goal.invariant-loop-k
invariant-loop-k g l = sets l.buffer l.at (digits g.row.BASE l.k l.rest) ≡ sets l.initial.buffer l.at (digits g.row.BASE l.count l.value)
