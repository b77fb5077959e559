use Rattle.std.proofs.Common.{◌≡◌, ℕ, ◌+◌, ◌<◌, ◌^◌, Some, List, length, take, arith, refl, sym, ap, ◌∙◌, subst}
use Rattle.std.specs.Prelude.{slice_index_or}
use Rattle.std.proofs.lemmas.List.{length-replicate}
use Rattle.air_ir.specs.declared.operand.Arg.{Arg}
use Rattle.air_shuffle.specs.Moves.{Move}
use Rattle.air_shuffle.specs.Waiting.{AreCounts, left_of, move_at, writer_of}
use Rattle.air_shuffle.proofs.Counting.{count-most, counts-none, counts-step, left_no}
use Rattle.air_shuffle.proofs.Left.{if_some}
use Rattle.air_shuffle.proofs.Releasing.{WriterIs, writer_is}
use Rattle.air_shuffle.proofs.pending.first_counts.Goals as goal
use Rattle.air_shuffle.proofs.pending.first_counts.Goals.{then-left-place, else-left-place}

pub loop-place-init : goal.loop-place-init
loop-place-init c =
    let end : c.loop.counter ≡ length c.args.moves.now = omega (arith, c.loop-test.false, c.loop.auto.counter-end) in
    counts-none c.args.moves.now c.loop.counter c.loop.counts.items end c.loop.invariant (ap length c.loop.invariant ∙ length-replicate c.loop.counter 0)

pub add_reader-requires-clause-few : goal.add_reader-requires-clause-few
add_reader-requires-clause-few c =
    let ms : List Move = c.args.moves.now in
    let k : ℕ = c.loop-place.place in
    let from : Arg = (move_at ms k).from in
    if_some (writer_of c.args.writers.now from) (λ j. slice_index_or c.loop-place.counts.items j 0 < 2 ^ 63) (λ j e.
    let w : WriterIs ms from (Some j) = subst (WriterIs ms from) e (writer_is ms c.args.writers.now from c.requires.writers (c.requires.sound.sources k c.loop-place-test.true)) in
    let most = count-most ms (take k c.args.left.now) c.loop-place.counts.items j w.0 c.loop-place.invariant in omega (arith, most, c.loop-place.invariant.many, c.loop-place.counts.small))

pub loop-place-preserved : goal.loop-place-preserved
loop-place-preserved c =
    let ms : List Move = c.args.moves.now in
    let k : ℕ = c.loop-place.place in
    let from : Arg = (move_at ms k).from in
    elim c.if-left-place.branch [
      | then-left-place w ↦
          rw w.counts-is (subst (AreCounts ms (left_of ms (take (k + 1) c.args.left.now))) (sym w.add_reader.ensures)
          (counts-step from ms c.args.left.now c.loop-place.counts.items (writer_of c.args.writers.now from) k c.requires.sound
          (writer_is ms c.args.writers.now from c.requires.writers (c.requires.sound.sources k c.loop-place-test.true)) c.loop-place-test.true refl w.if-left-place.true c.loop-place.invariant))
      | else-left-place w ↦
          rw w.counts-is (subst (λ (l : List Move). AreCounts ms l c.loop-place.counts.items) (sym (left_no ms c.args.left.now k w.if-left-place.false)) c.loop-place.invariant)
    ]
