use Rattle.std.proofs.Common.{◌++◌, ◌∷◌, [], List, map, take, sym, ap, ◌∙◌}
use Rattle.std.proofs.lemmas.List.{map_more}
use Rattle.air_ir.specs.declared.procedure.AirBlock.{AirBlock}
use Rattle.air_spill.specs.Rewritten.{home_by, rewritten_block}
use Rattle.air_spill.proofs.procedure.rewritten_blocks.Goals as goal

pub loop-block-preserved : goal.loop-block-preserved
loop-block-preserved c =
    let f = rewritten_block (home_by c.args.assignment.now) in
    c.in_ok-push.ensures.ok ∙ ap (λ (l : List AirBlock). l ++ c.in_ok-rewritten_block.field-0 ∷ []) c.loop-block.invariant
    ∙ ap (λ (b : AirBlock). map f (take c.loop-block.block-index c.args.blocks.now) ++ b ∷ []) (c.in_ok-rewritten_block.ensures ∙ ap f c.block-item.is)
    ∙ sym (map_more f c.args.blocks.now c.loop-block.block-index c.block-item.result c.loop-block-test.true)
