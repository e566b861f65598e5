-- `text::put_page`: where the line ends, which the search finds only just. Assumes nothing.
use Prim.Native.Nat.{ℕ}
use native.Mathlib.Omega.{arith}
use lib.ListN.{length-append}
use Rattle.text.proofs.Digits.{length_digits}
use Rattle.text.proofs.Texts.{length_newline}
use Rattle.text.proofs.put_page.Goals as goal

pub returns-clause-next_place : goal.returns-clause-next_place
returns-clause-next_place c = omega (arith, length-append {A = ℕ}, length_newline, length_digits 16 16 c.args.p.address)
