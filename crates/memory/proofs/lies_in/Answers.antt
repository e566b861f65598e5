-- `memory::lies_in` meets its contract. The first record that serves is the answer. Assumes nothing.
use Rattle.std.proofs.Common.{rules}
use Rattle.std.proofs.lemmas.Iterator.{first_from_Range}
use Rattle.memory.proofs.Inside.{first-lies}
use Rattle.memory.proofs.lies_in.Goals as goal

pub returns : goal.returns
returns c =
    first-lies _ _ _ _ c.find.result
    (first_from_Range _ _ _ c.find.result _ _ c.find.ensures.ran (λ x q k. search rules) (λ x q k. search rules))
