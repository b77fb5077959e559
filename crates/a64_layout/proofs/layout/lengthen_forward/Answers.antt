use Rattle.std.proofs.Common.{◌+◌, ◌-◌, ◌∙◌, ap, subst, length, arith}
use Rattle.a64_layout.specs.Branch.{branch_in, branch_of}
use Rattle.a64_layout.proofs.Forward.{IsPassForward, forward_first, forward_kept, forward_lengthened, forward_whole, rest_short}
use Rattle.a64_layout.proofs.Flags.{no_both}
use Rattle.a64_layout.proofs.Least.{names_below}
use Rattle.a64_layout.proofs.layout.lengthen_forward.Goals as goal
use Rattle.a64_layout.proofs.layout.lengthen_forward.Goals.{then-not-is_near_forward, else-not-is_near_forward}

pub loop-done-init : goal.loop-done-init
loop-done-init c = forward_first c.args.code.now c.args.long.now c.args.places.now _ (omega arith) c.requires.places

pub is_near_forward-requires-clause-named : goal.is_near_forward-requires-clause-named
is_near_forward-requires-clause-named c =
    names_below _ (branch_of c.get-item.result.now)
    (λ test label is. let named = c.requires.good.ifs _ test label (ap branch_in c.get-item.ensures ∙ is) in omega (arith, named, c.requires.positions))

pub overflow_add-rest : goal.overflow_add-rest
overflow_add-rest c =
    omega (
      arith,
      rest_short c.args.code.now c.requires.good (length c.args.code.now - c.loop-done.done) c.args.long.now c.loop-done.long
          c.loop-done.rest c.loop-done.places c.loop-done.changed c.loop-done.invariant,
      c.size-rest.ensures.most,
    )

pub loop-done-preserved : goal.loop-done-preserved
loop-done-preserved c =
    subst (λ n. IsPassForward c.args.code.now c.args.long.now c.if-not-is_near_forward.long n (c.loop-done.rest + c.size-rest.result)
    c.put_label.new.places c.if-not-is_near_forward.changed) (omega arith)
    (elim c.if-not-is_near_forward.branch [
      | then-not-is_near_forward w ↦
          forward_lengthened c.args.code.now c.requires.good c.args.positions.now c.requires.positions c.requires.told c.args.long.now
          c.loop-done.long (c.len.result - 1 - c.loop-done.done) (length c.args.code.now - c.loop-done.done) c.loop-done.rest c.loop-done.places
          c.loop-done.changed (omega arith)
          c.loop-done.invariant c.get-item.result.now c.get-item.ensures c.get.result.now c.get.ensures
          (λ near. no_both c.is_near_forward.result (c.is_near_forward.ensures.1 near) w.if-not-is_near_forward.true) c.size-rest.result
          c.get-in-loop-done.result.now c.put_label.new.places
          c.if-not-is_near_forward.long c.if-not-is_near_forward.changed (w.long-is ∙ w.set.ensures) w.changed-is c.get-in-loop-done.ensures
          c.size-rest.ensures.value c.put_label.ensures
      | else-not-is_near_forward w ↦
          forward_kept c.args.code.now c.requires.good c.args.positions.now c.requires.positions c.requires.told c.args.long.now c.loop-done.long
          (c.len.result - 1 - c.loop-done.done) (length c.args.code.now - c.loop-done.done) c.loop-done.rest c.loop-done.places
          c.loop-done.changed (omega arith)
          c.loop-done.invariant c.get-item.result.now c.get-item.ensures c.get.result.now c.get.ensures
          (c.is_near_forward.ensures.0 w.if-not-is_near_forward.false) c.size-rest.result c.get-in-loop-done.result.now c.put_label.new.places
          c.if-not-is_near_forward.long c.if-not-is_near_forward.changed w.long-is w.changed-is c.get-in-loop-done.ensures c.size-rest.ensures.value
          c.put_label.ensures
    ])

pub returns-clause-reach : goal.returns-clause-reach
returns-clause-reach c = λ k test label is past short.
    forward_whole c.args.code.now _ c.args.long.now c.loop-done.long c.loop-done.rest c.loop-done.places c.loop-done.changed (omega arith)
    c.loop-done.invariant k test label is past short
