use Rattle.bit_rows.proofs.RowSets.{one_set}
use Rattle.bit_rows.proofs.single.set_bit.Goals as goal

pub returns-clause-bits : goal.returns-clause-bits
returns-clause-bits c q = one_set c.args.words.now c.args.at c.args.bit q c.requires
