use Rattle.std.proofs.Common.{List}
use Rattle.std.specs.List.{flat_map}
use Rattle.b3_ir.specs.declared.value.Value.{Value}
use Rattle.air_fold.specs.Foldable.{uses_by}
use Rattle.air_fold.specs.Tallied.{block_uses, with_all}
use Rattle.air_fold.proofs.Tallies.{value_next}
use Rattle.air_fold.proofs.Walks.{walk_next, walk_smaller}
use Rattle.air_fold.proofs.uses.note_block.Goals as goal

pub loop-at-smaller : goal.loop-at-smaller
loop-at-smaller c =
    let walk = rw c.in-Some.is at c.loop-at.invariant in
    rw c.in-Some.is
    (walk_smaller c.args.p.now c.args.block c.in-Some.node c.value.result.now c.next-at.result (c.value.ensures.head c.args.block walk.there)
    (c.next-at.ensures.rest c.args.block walk.there))

pub loop-at-preserved : goal.loop-at-preserved
loop-at-preserved c =
    let b = c.args.block in
    let x = c.args.index.now in
    let v = c.value.result.now in
    let walk = rw c.in-Some.is at c.loop-at.invariant in
    walk_next c.args.p.now b c.in-Some.node v c.next-at.result (λ (vs : List Value). with_all x c.args.pointers.now c.loop-at.tallies (flat_map (uses_by b) vs))
    (λ (vs : List Value). with_all x c.args.pointers.now c.note_value.new.tallies (flat_map (uses_by b) vs))
    (with_all x c.args.pointers.now c.args.tallies.now (block_uses c.args.p.now.procedure b))
    walk (c.value.ensures.head b walk.there) (value_next x c.args.pointers.now b c.loop-at.tallies c.note_value.new.tallies v c.note_value.ensures)
    (c.next-at.ensures.rest b walk.there) (c.next-at.ensures.there b walk.there)
