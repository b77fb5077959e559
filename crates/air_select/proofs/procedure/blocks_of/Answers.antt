use Rattle.std.proofs.Common.{arith}
use Rattle.std.specs.Prelude.{slice_index_or}
use Rattle.std.proofs.lemmas.Option.{slice_get-get_or}
use Rattle.b3_ir.specs.Procedure.{no_block, values_of}
use Rattle.b3_rules.specs.Valid.{Header}
use Rattle.b3_rules.specs.declared.rule.Rule.TheVariants.{Endings}
use Rattle.air_select.specs.Selected.{entry_of}
use Rattle.air_select.proofs.Coded.{block_added}
use Rattle.air_select.proofs.procedure.blocks_of.Goals as goal

pub entry-requires : goal.entry-requires
entry-requires c = c.requires.valid Endings Header tt

pub loop-block-preserved : goal.loop-block-preserved
loop-block-preserved c =
    let p = c.args.p.now.procedure in
    let t = c.args.t.now in
    let block = c.loop-block.block in
    let of = slice_index_or p.blocks block no_block in
    let there = slice_get-get_or p.blocks block no_block (omega (arith, c.blocks-block-end.ensures)) in
    block_added t p (entry_of t.index (values_of p 0)) block of c.in_ok-block_of.field-0 c.loop-block.list c.push-in-loop-block.new.self there
    (c.in_ok-block_of.ensures of there) c.loop-block.invariant c.in_ok-push-2.ensures.ok
