use Rattle.std.proofs.Common.{◌≡◌, ◌<◌, List, None, length, take, ap, ◌∙◌, arith}
use Rattle.std.proofs.lemmas.List.{take_all}
use Rattle.std.specs.BTreeMap as tree
use Rattle.std.specs.List.{flat_map}
use Rattle.std.specs.Ordering.{nat_cmp}
use Rattle.b3_ir.specs.Procedure.{Block}
use Rattle.b3_eval.proofs.Typed.{one_more_block, types_all}
use Rattle.b3_eval.specs.Lookup.{with_types}
use Rattle.b3_eval.proofs.types.types_of.Goals as goal

pub loop-block-preserved : goal.loop-block-preserved
loop-block-preserved c =
    let lt : c.loop-block.block < length c.args.p.now.procedure.blocks = omega (arith, c.blocks-block-end.ensures) in
    one_more_block c.args.p.now.procedure (tree.get nat_cmp c.loop-block.types) (tree.get nat_cmp c.add_block.new.types) c.loop-block.block lt
    c.loop-block.invariant c.in_ok-add_block.ensures

pub returns : goal.returns
returns c =
    let all : take c.loop-block.block c.args.p.now.procedure.blocks ≡ c.args.p.now.procedure.blocks = take_all c.loop-block.block
    c.args.p.now.procedure.blocks (omega (arith, c.blocks-block-end.ensures)) in
    types_all c.args.p.now.procedure (tree.get nat_cmp c.loop-block.types)
    (c.loop-block.invariant ∙ ap (λ (blocks : List Block). with_types (λ _. None) (flat_map (λ (b : Block). b.values) blocks)) all)
