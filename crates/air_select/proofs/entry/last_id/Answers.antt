use Rattle.std.proofs.Common.{List, ◌∙◌, refl}
use Rattle.b3_ir.specs.Procedure.{values_of}
use Rattle.b3_ir.specs.declared.value.Value.{Value}
use Rattle.air_select.proofs.Entries.{last_from, last_is}
use Rattle.air_fold.proofs.Walks.{walk_next, walk_smaller}
use Rattle.air_select.proofs.entry.last_id.Goals as goal

pub loop-at-smaller : goal.loop-at-smaller
loop-at-smaller c =
    let walk = rw c.in-Some.is at c.loop-at.invariant in
    rw c.in-Some.is
    (walk_smaller c.args.p.now 0 c.in-Some.node c.value.result.now c.next-at.result (c.value.ensures.head 0 walk.there)
    (c.next-at.ensures.rest 0 walk.there))

pub loop-at-preserved : goal.loop-at-preserved
loop-at-preserved c =
    let v = c.value.result.now in
    let walk = rw c.in-Some.is at c.loop-at.invariant in
    walk_next c.args.p.now 0 c.in-Some.node v c.next-at.result (λ (vs : List Value). last_from c.loop-at.id vs) (λ (vs : List Value). last_from v.id vs)
    (last_from 0 (values_of c.args.p.now.procedure 0))
    walk (c.value.ensures.head 0 walk.there) (λ vs. refl) (c.next-at.ensures.rest 0 walk.there) (c.next-at.ensures.there 0 walk.there)

pub returns : goal.returns
returns c =
    let walk = rw c.in_default.is at c.loop-at.invariant in walk.makes ∙ last_is (values_of c.args.p.now.procedure 0)
