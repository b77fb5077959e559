use Rattle.std.proofs.Common.{◌<◌, subst, arith}
use Rattle.a64_layout.specs.Layout.{position_of}
use Rattle.a64_layout.specs.Text.{label_count}
use Rattle.a64_layout.proofs.Putting.{all_put, label_at, labels_numbered}
use Rattle.a64_layout.proofs.places.label_positions.Goals as goal

pub returns-clause-told : goal.returns-clause-told
returns-clause-told c = λ label below.
    let named : label < label_count c.args.code.now = subst (λ n. label < n) c.loop-at.invariant.count_is below in
    let there = c.requires.label_there label named in
    all_put c.args.code.now label_at (label_count c.args.code.now) (position_of c.args.code.now) (labels_numbered c.args.code.now c.requires) (λ k. k)
    (λ k. k < c.loop-at.at) c.loop-at.positions c.loop-at.invariant label named (omega arith)
