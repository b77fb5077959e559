use Rattle.std.proofs.Common.{◌≡◌, ℕ, length, subst, arith}
use Rattle.std.specs.Prelude.{slice_index_or}
use Rattle.std.proofs.lemmas.Option.{slice_get-get_or}
use Rattle.b3_ir.specs.Procedure.{Block, no_block}
use Rattle.b3_rules.specs.Valid.{HeadingAt}
use Rattle.b3_validate.specs.Spots.{IsLeastIn, IsOfBlocksBelow}
use Rattle.b3_validate.proofs.Parts.{block_more, block_whole, no_blocks, one_part}
use Rattle.b3_validate.proofs.procedure.blocks_breach.Goals as goal

pub loop-block-init : goal.loop-block-init
loop-block-init c = no_blocks c.args.p.now.procedure

pub loop-block-preserved : goal.loop-block-preserved
loop-block-preserved c =
    let p = c.args.p.now.procedure in
    let n = c.loop-block.block in
    let block : Block = slice_index_or p.blocks n no_block in
    let there = slice_get-get_or p.blocks n no_block (omega arith) in
    let heading = one_part p (HeadingAt n block) there c.block.result.line c.heading_breach.result c.spot_on-of_heading.result c.block.ensures.line c.heading_breach.ensures c.spot_on-of_heading.ensures in
    let whole = block_whole p c.spot_on-of_heading.result c.in_ok-of_values.of_values c.sooner-here.result c.sooner-here.ensures n block heading c.in_ok-of_values.ensures in
    block_more p c.loop-block.least c.sooner-here.result c.sooner-least.result c.sooner-least.ensures n block there c.loop-block.invariant whole

pub returns : goal.returns
returns c =
    let p = c.args.p.now.procedure in
    let all : c.loop-block.block ≡ length p.blocks = omega arith in
    subst (λ (n : ℕ). IsLeastIn p (IsOfBlocksBelow n) c.loop-block.least) all c.loop-block.invariant
