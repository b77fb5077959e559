use Rattle.std.proofs.Common.{◌∙◌, arith}
use Rattle.std.specs.Prelude.{slice_index_or}
use Rattle.b3_ir.specs.Procedure.{no_block}
use Rattle.b3_print.proofs.TextLemmas.{block_next, block_there}
use Rattle.b3_print.proofs.printing.put_blocks.Goals as goal

pub loop-at-preserved : goal.loop-at-preserved
loop-at-preserved c =
    let blocks = c.args.p.now.procedure.blocks in
    let b = slice_index_or blocks c.loop-at.at no_block in
    let there = block_there blocks c.loop-at.at (omega (arith, c.loop-at-test.true, c.blocks-at-end.ensures)) in
    block_next c.loop-at.out c.put_block.new.out blocks c.loop-at.at b there (c.in_ok-put_block.ensures b there) ∙ c.loop-at.invariant
