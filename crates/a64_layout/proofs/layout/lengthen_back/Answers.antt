use Rattle.std.proofs.Common.{◌∙◌, ap, arith}
use Rattle.a64_layout.specs.Branch.{branch_in, branch_of}
use Rattle.a64_layout.specs.Text.{chosen}
use Rattle.a64_layout.proofs.Back.{back_first, back_kept, back_lengthened, back_whole}
use Rattle.a64_layout.proofs.Flags.{no_both}
use Rattle.a64_layout.proofs.Labels.{place_short}
use Rattle.a64_layout.proofs.Least.{names_below}
use Rattle.a64_layout.proofs.layout.lengthen_back.Goals as goal
use Rattle.a64_layout.proofs.layout.lengthen_back.Goals.{then-not-is_near_back, else-not-is_near_back}

pub loop-at-init : goal.loop-at-init
loop-at-init c = back_first c.args.code.now c.args.long.now c.args.places.now c.requires.places

pub is_near_back-requires-clause-named : goal.is_near_back-requires-clause-named
is_near_back-requires-clause-named c =
    names_below _ (branch_of c.get-item.result.now)
    (λ test label is. let named = c.requires.good.ifs c.loop-at.at test label (ap branch_in c.get-item.ensures ∙ is) in omega
    (arith, named, c.requires.positions))

pub overflow_add-here : goal.overflow_add-here
overflow_add-here c = omega (
  arith,
  place_short c.args.code.now c.requires.good (chosen c.loop-at.long) c.loop-at.at (omega arith),
  c.loop-at.invariant.here_is,
  c.size-here.ensures.most,
)

pub loop-at-preserved : goal.loop-at-preserved
loop-at-preserved c =
    elim c.if-not-is_near_back.branch [
      | then-not-is_near_back w ↦
          back_lengthened c.args.code.now c.requires.good c.args.positions.now c.requires.positions c.requires.told c.args.long.now c.loop-at.long
          c.loop-at.at c.loop-at.here c.loop-at.places c.loop-at.invariant c.get-item.result.now c.get-item.ensures
          c.get.result.now c.get.ensures (λ near. no_both c.is_near_back.result (c.is_near_back.ensures.1 near) w.if-not-is_near_back.true)
          c.size-here.result c.get-in-loop-at.result.now c.put_label.new.places c.if-not-is_near_back.long (w.long-is ∙ w.set.ensures)
          c.get-in-loop-at.ensures
          c.size-here.ensures.value c.put_label.ensures
      | else-not-is_near_back w ↦
          back_kept c.args.code.now c.requires.good c.args.positions.now c.requires.positions c.requires.told c.args.long.now c.loop-at.long
          c.loop-at.at c.loop-at.here c.loop-at.places c.loop-at.invariant c.get-item.result.now c.get-item.ensures
          c.get.result.now c.get.ensures (c.is_near_back.ensures.0 w.if-not-is_near_back.false) c.size-here.result c.get-in-loop-at.result.now
          c.put_label.new.places c.if-not-is_near_back.long w.long-is c.get-in-loop-at.ensures
          c.size-here.ensures.value c.put_label.ensures
    ]

pub returns-clause-reach : goal.returns-clause-reach
returns-clause-reach c = λ k test label is before short.
    back_whole c.args.code.now c.loop-at.at c.args.long.now c.loop-at.long c.loop-at.here c.loop-at.places (omega arith) c.loop-at.invariant k test
    label is before short
