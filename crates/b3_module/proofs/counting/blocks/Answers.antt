use Rattle.std.proofs.Common.{Result, sym, ◌∙◌, ap, ◌+◌, drop, arith}
use Rattle.std.specs.Prelude.{slice_index_or}
use Rattle.std.specs.List.{flat_map}
use Rattle.std.proofs.lemmas.Result.{err_from_is_err_and}
use Rattle.b3_ir.specs.Procedure.{no_block}
use Rattle.b3_module.specs.declared.counting.Counts.{Counts}
use Rattle.b3_module.specs.declared.counting.Passed.{Passed}
use Rattle.b3_module.specs.Limits.{parts_of_block}
use Rattle.b3_module.specs.Counting.{counted_on}
use Rattle.b3_module.proofs.CountLemmas.{block_next, get_block, halted}
use Rattle.b3_module.proofs.counting.blocks.Goals as goal

pub returns-in_err-counts : goal.returns-in_err-counts
returns-in_err-counts c =
    let blocks = c.args.p.now.procedure.blocks in
    let b = slice_index_or blocks c.loop-at.at no_block in
    let there = get_block blocks c.loop-at.at (omega (arith, c.loop-at-test.true, c.blocks-at-end.ensures)) in
    let p = err_from_is_err_and c.from_residual.result c.from_residual.ensures.1 in
    let next = block_next blocks c.loop-at.at b c.loop-at.counts there in
    halted c.from_residual.result _ p.0 c.in_err-counts.field-0.0 (flat_map parts_of_block (drop (c.loop-at.at + 1) blocks)) _ p.1 p.2 (sym (c.block.ensures b there) ∙ c.in_err-counts.was) (sym next ∙ c.loop-at.invariant)

pub loop-at-preserved : goal.loop-at-preserved
loop-at-preserved c =
    let blocks = c.args.p.now.procedure.blocks in
    let b = slice_index_or blocks c.loop-at.at no_block in
    let there = get_block blocks c.loop-at.at (omega (arith, c.loop-at-test.true, c.blocks-at-end.ensures)) in
    let rest = flat_map parts_of_block (drop (c.loop-at.at + 1) blocks) in
    let next = block_next blocks c.loop-at.at b c.loop-at.counts there in
    ap (λ (r : Result Counts Passed). counted_on r rest) (sym c.in_ok-counts.was ∙ c.block.ensures b there) ∙ sym next ∙ c.loop-at.invariant
