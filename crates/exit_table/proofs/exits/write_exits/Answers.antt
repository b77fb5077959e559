use Rattle.std.proofs.Common.{arith}
use Rattle.exit_table.proofs.Counts.{few_of_writable}
use Rattle.exit_table.proofs.exits.write_exits.Goals as goal

pub overflow_cast-len : goal.overflow_cast-len
overflow_cast-len c = omega (arith, c.len.ensures, (few_of_writable c.args.tables.now c.requires).1)
