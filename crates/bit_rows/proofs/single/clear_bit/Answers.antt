use Rattle.bit_rows.proofs.RowSets.{one_cleared}
use Rattle.bit_rows.proofs.single.clear_bit.Goals as goal

pub returns-clause-bits : goal.returns-clause-bits
returns-clause-bits c q = one_cleared c.args.words.now c.args.at c.args.bit q c.requires
