use Rattle.std.proofs.Common.{List, ◌∙◌, drop, Some, sym}
use Rattle.b3_ir.specs.Procedure.{values_from, values_of}
use Rattle.b3_ir.specs.declared.value.Value.{Value}
use Rattle.air_select.specs.Selected.{names_argument}
use Rattle.air_select.proofs.Entries.{argument_found, argument_passed}
use Rattle.air_fold.proofs.Walks.{walk_here, walk_next, walk_smaller}
use Rattle.air_select.proofs.entry.names_argument.Goals as goal

pub loop-at-smaller : goal.loop-at-smaller
loop-at-smaller c =
    let walk = rw c.in-Some.is at c.loop-at.invariant in
    rw c.in-Some.is
    (walk_smaller c.args.p.now 0 c.in-Some.node c.value.result.now c.next-at.result (c.value.ensures.head 0 walk.there)
    (c.next-at.ensures.rest 0 walk.there))

pub loop-at-preserved : goal.loop-at-preserved
loop-at-preserved c =
    let v = c.value.result.now in
    let walk = rw c.in-Some.is at c.loop-at.invariant in
    walk_next c.args.p.now 0 c.in-Some.node v c.next-at.result (λ (vs : List Value). names_argument vs c.args.r)
    (λ (vs : List Value). names_argument vs c.args.r)
    (names_argument (values_of c.args.p.now.procedure 0) c.args.r)
    walk (c.value.ensures.head 0 walk.there) (argument_passed c.args.r v (sym c.names_register.ensures ∙ c.if-names_register.false))
    (c.next-at.ensures.rest 0 walk.there) (c.next-at.ensures.there 0 walk.there)

pub returns-then-names_register : goal.returns-then-names_register
returns-then-names_register c =
    let v = c.value.result.now in
    let walk = rw c.in-Some.is at c.loop-at.invariant in
    let p = c.args.p.now in
    argument_found c.args.r v (drop 1 (values_from p 0 (Some c.in-Some.node))) (sym c.names_register.ensures ∙ c.if-names_register.true)
    ∙ walk_here p 0 c.in-Some.node v (λ (vs : List Value). names_argument vs c.args.r) (names_argument (values_of p.procedure 0) c.args.r) walk
    (c.value.ensures.head 0 walk.there)
