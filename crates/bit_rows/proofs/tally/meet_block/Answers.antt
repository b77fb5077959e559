use Rattle.std.proofs.Common.{bit_and}
use Rattle.bit_rows.proofs.Merging.{lane, length-lanes}
use Rattle.bit_rows.proofs.tally.meet_block.Goals as goal

pub returns-clause-lanes : goal.returns-clause-lanes
returns-clause-lanes c = length-lanes bit_and c.args.words.now c.args.a c.args.b 4 c.requires.first c.requires.second

pub returns-clause-common : goal.returns-clause-common
returns-clause-common c j h = lane bit_and c.args.words.now c.args.a c.args.b 4 j c.requires.first c.requires.second h
