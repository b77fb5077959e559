use Rattle.std.proofs.Common.{arith}
use Rattle.exit_table.proofs.Counts.{few_of_writable, few_frames}
use Rattle.exit_table.proofs.frames.write_frames.Goals as goal

pub overflow_cast-len : goal.overflow_cast-len
overflow_cast-len c = omega (arith, c.len.ensures, (few_of_writable c.args.tables.now c.requires).0)

pub put_frames-requires : goal.put_frames-requires
put_frames-requires c = few_frames _ c.requires.good.frames
