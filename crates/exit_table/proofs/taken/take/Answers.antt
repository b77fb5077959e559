use Rattle.exit_table.proofs.TakenLaws.{joins}
use Rattle.exit_table.proofs.taken.take.Goals as goal

pub returns : goal.returns
returns c = rw c.in_ok-insert.ensures.entries (joins c.args.taken.now.entries (record { offset = c.args.offset; size = c.args.size }) c.requires.stacked c.requires.least c.requires.most c.requires.clear)
