use Rattle.std.proofs.Common.{ℕ, ◌≤◌, List, ap, arith, length}
use Rattle.air_fold.proofs.Listed.{few_ids, known_end, known_next}
use Rattle.air_fold.proofs.index.index_of.Goals as goal

pub loop-block-preserved : goal.loop-block-preserved
loop-block-preserved c =
    known_next c.args.p.now.procedure c.loop-block.ids.keys c.note_block.new.ids.keys c.loop-block.known c.note_block.new.known c.loop-block.block
    (omega (arith, c.blocks-block-end.ensures)) c.loop-block.invariant c.in_ok-note_block.ensures.ids c.in_ok-note_block.ensures.known

pub invariant_of-result : goal.invariant_of-result
invariant_of-result c =
    let p = c.args.p.now.procedure in
    let keys = c.loop-block.ids.keys in
    let end = known_end p keys c.loop-block.known c.loop-block.block (omega (arith, c.blocks-block-end.ensures)) c.loop-block.invariant in
    let few : length keys ≤ 16384 = omega (arith, few_ids p c.requires.few, ap (λ (l : List ℕ). length l) end.0) in few
