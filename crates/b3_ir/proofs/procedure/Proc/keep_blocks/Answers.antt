use Rattle.std.proofs.Common.{ap, arith, false}
use Rattle.b3_ir.specs.Procedure.{total}
use Rattle.b3_ir.proofs.Keeping.{packed_clear, packed_move, total_taken, empty_past}
use Rattle.b3_ir.proofs.procedure.Proc.keep_blocks.Goals.{then-keep-from, else-keep-from}
use Rattle.b3_ir.proofs.procedure.Proc.keep_blocks.Goals as goal

pub overflow_add-live : goal.overflow_add-live
overflow_add-live c =
    let few = c.whole.ensures.few_blocks in
    let le = c.loop-from.invariant.le in
    let lt = c.loop-from-test.true in
    let each = c.requires in
    omega arith

pub loop-from-preserved : goal.loop-from-preserved
loop-from-preserved c =
    elim c.if-keep-from.branch [
      | then-keep-from w ↦
          let h = w.if-keep-from.true in
          rw (w.self-is, w.live-is) (packed_move c.args.self.now c.loop-from.self w.move_up.new.self c.args.keep.now c.loop-from.from c.loop-from.live false c.loop-from.invariant c.loop-from-test.true c.requires h w.move_up.ensures.procedure w.move_up.ensures.nodes w.move_up.ensures.spare)
      | else-keep-from w ↦
          let h = w.if-keep-from.false in
          rw (w.self-is, w.live-is) (packed_clear c.args.self.now c.loop-from.self w.clear.new.self c.args.keep.now c.loop-from.from c.loop-from.live false c.loop-from.invariant c.loop-from-test.true c.requires h w.clear.ensures.procedure w.clear.ensures.nodes w.clear.ensures.spare)
    ]

pub returns-clause-spare : goal.returns-clause-spare
returns-clause-spare c =
    let past = empty_past c.args.self.now c.loop-from.self c.args.keep.now c.loop-from.from c.loop-from.live c.loop-from.invariant (let e = c.requires in let t = c.loop-from-test.false in omega arith) in
    let taken = total_taken c.loop-from.self.procedure.blocks c.loop-from.live past in
    let procedure = ap total c.truncate.ensures.procedure in
    let was = c.loop-from.invariant.spare in
    omega (arith, procedure, taken, was, c.truncate.ensures.spare)
