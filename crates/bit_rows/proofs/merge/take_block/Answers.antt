use Rattle.std.proofs.Common.{bit_and, bit_xor}
use Rattle.bit_rows.specs.Words.{without}
use Rattle.bit_rows.proofs.Merging.{merged_block, lane_of_both, length-lanes_of_both}
use Rattle.bit_rows.proofs.merge.take_block.Goals as goal

pub returns : goal.returns
returns c =
    merged_block without c.args.words.now _ c.args.a c.args.b 4 c.requires.to
    (length-lanes_of_both bit_xor bit_and c.args.words.now c.args.a c.args.b 4 c.requires.to c.requires.from)
    (λ j h. lane_of_both bit_xor bit_and c.args.words.now c.args.a c.args.b 4 j c.requires.to c.requires.from h)
