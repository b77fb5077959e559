use Rattle.std.proofs.Common.{ℕ, ◌∙◌, true, cond, ap, arith}
use Rattle.std.specs.Prelude.{nat_eq, slice_index_or}
use Rattle.std.proofs.lemmas.Option.{slice_get-get_or}
use Rattle.indexmap.specs.IndexSet.{contains}
use Rattle.b3_ir.specs.Procedure.{Block, no_block}
use Rattle.b3_validate.proofs.Numbers.{all_below, more_below}
use Rattle.b3_validate.proofs.index.block_numbers.Goals as goal

pub loop-block-preserved : goal.loop-block-preserved
loop-block-preserved c =
    let bs = c.args.p.now.procedure.blocks in
    let n = c.loop-block.block in
    let x : Block = slice_index_or bs n no_block in
    more_below (λ (b : Block). b.number) bs (λ q. contains nat_eq c.loop-block.numbers q) (λ q. contains nat_eq c.insert.new.self q) n x c.loop-block.invariant (slice_get-get_or bs n no_block (omega arith)) (λ q. c.in_ok-insert.ensures.updates.0 q ∙ ap (λ (k : ℕ). cond (nat_eq k q) true (contains nat_eq c.loop-block.numbers q)) c.block.ensures.number)

pub returns : goal.returns
returns c = all_below (λ (b : Block). b.number) c.args.p.now.procedure.blocks (λ q. contains nat_eq c.loop-block.numbers q) c.loop-block.block (omega arith) c.loop-block.invariant
