use Rattle.std.proofs.Common.{◌+◌, arith}
use Rattle.bit_rows.specs.Words.{without}
use Rattle.bit_rows.proofs.Merging.{Merges-join, merged_word}
use Rattle.bit_rows.proofs.merge.take_plain.Goals as goal

pub loop-j-preserved : goal.loop-j-preserved
loop-j-preserved c =
    Merges-join without c.args.words.now c.loop-j.words _ c.args.a c.args.b c.loop-j.j 1 (c.loop-j.j + 1) c.args.n
    c.requires.apart c.loop-j.invariant (merged_word without c.loop-j.words (c.args.a + c.loop-j.j) (c.args.b + c.loop-j.j) (omega arith)) (omega arith) (omega arith)
