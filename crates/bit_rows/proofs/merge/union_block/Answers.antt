use Rattle.std.proofs.Common.{bit_or, bit_and, bit_xor}
use Rattle.bit_rows.proofs.Merging.{merged_block, lane, length-lanes, lane_of_both, length-lanes_of_both}
use Rattle.bit_rows.proofs.merge.union_block.Goals as goal

pub returns-clause-merges : goal.returns-clause-merges
returns-clause-merges c =
    merged_block bit_or c.args.words.now _ c.args.a c.args.b 4 c.requires.to
    (length-lanes bit_or c.args.words.now c.args.a c.args.b 4 c.requires.to c.requires.from)
    (λ j h. lane bit_or c.args.words.now c.args.a c.args.b 4 j c.requires.to c.requires.from h)

pub returns-clause-lanes : goal.returns-clause-lanes
returns-clause-lanes c = length-lanes_of_both bit_xor bit_and c.args.words.now c.args.b c.args.a 4 c.requires.from c.requires.to

pub returns-clause-fresh : goal.returns-clause-fresh
returns-clause-fresh c j h = lane_of_both bit_xor bit_and c.args.words.now c.args.b c.args.a 4 j c.requires.from c.requires.to h
