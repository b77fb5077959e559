use Rattle.std.proofs.Common.{◌∙◌, drop, Some, sym}
use Rattle.b3_ir.specs.Procedure.{values_from, values_of}
use Rattle.b3_rules.specs.Rules.{first_return}
use Rattle.air_select.proofs.Entries.{return_found, return_passed}
use Rattle.air_fold.proofs.Walks.{walk_here, walk_next, walk_smaller}
use Rattle.air_select.proofs.entry.return_in.Goals as goal

pub loop-at-smaller : goal.loop-at-smaller
loop-at-smaller c =
    let walk = rw c.in-Some.is at c.loop-at.invariant in
    rw c.in-Some.is
    (walk_smaller c.args.p.now c.args.block c.in-Some.node c.value-value.result.now c.next-at.result (c.value-value.ensures.head c.args.block walk.there)
    (c.next-at.ensures.rest c.args.block walk.there))

pub loop-at-preserved : goal.loop-at-preserved
loop-at-preserved c =
    let b = c.args.block in
    let v = c.value-value.result.now in
    let walk = rw c.in-Some.is at c.loop-at.invariant in
    walk_next c.args.p.now b c.in-Some.node v c.next-at.result first_return first_return (first_return (values_of c.args.p.now.procedure b))
    walk (c.value-value.ensures.head b walk.there) (return_passed v (sym c.is_return.ensures ∙ c.if-is_return.false))
    (c.next-at.ensures.rest b walk.there) (c.next-at.ensures.there b walk.there)

pub returns-then-is_return-clause-some : goal.returns-then-is_return-clause-some
returns-then-is_return-clause-some c =
    let b = c.args.block in
    let v = c.value-value.result.now in
    let walk = rw c.in-Some.is at c.loop-at.invariant in
    let p = c.args.p.now in
    sym (walk_here p b c.in-Some.node v first_return (first_return (values_of p.procedure b)) walk (c.value-value.ensures.head b walk.there))
    ∙ return_found v (drop 1 (values_from p b (Some c.in-Some.node))) (sym c.is_return.ensures ∙ c.if-is_return.true)
