use Rattle.std.proofs.Common.{◌<◌, Ok, Some, sym, ◌∙◌, ap, subst, drop, length, ℕ, Option, refl}
use Rattle.std.specs.Prelude.{IfSome}
use Rattle.std.proofs.lemmas.Result.{err_from_is_err_and}
use Rattle.b3_ir.specs.Procedure.{IsIn, values_from}
use Rattle.b3_module.specs.Limits.{parts_of_values}
use Rattle.b3_module.specs.Counting.{counted_on}
use Rattle.b3_module.proofs.CountLemmas.{halted, shorter, value_next}
use Rattle.b3_module.proofs.counting.values.Goals as goal

pub returns-in_err-counts : goal.returns-in_err-counts
returns-in_err-counts c =
    let p = err_from_is_err_and c.from_residual.result c.from_residual.ensures.1 in
    let there : IsIn c.args.p.now c.in-Some.at c.args.block = subst (λ (o : Option ℕ). IfSome o (λ at. IsIn c.args.p.now at c.args.block)) c.in-Some.is c.loop-node.invariant.there in
    let old = values_from c.args.p.now c.args.block (Some c.in-Some.at) in
    let same = ap (λ (o : Option ℕ). counted_on (Ok c.loop-node.counts) (parts_of_values (values_from c.args.p.now c.args.block o))) c.in-Some.is in
    let next = value_next old (drop 1 old) c.value-value_at.result.now c.loop-node.counts (c.value-value_at.ensures.head c.args.block there) refl in
    let was = sym c.value.ensures ∙ c.in_err-counts.was in
    halted c.from_residual.result _ p.0 c.in_err-counts.field-0.0 (parts_of_values (drop 1 old)) _ p.1 p.2 (rw c.operands.ensures at was) (sym next ∙ sym same ∙ c.loop-node.invariant.same)

pub loop-node-smaller : goal.loop-node-smaller
loop-node-smaller c =
    let there : IsIn c.args.p.now c.in-Some.at c.args.block = subst (λ (o : Option ℕ). IfSome o (λ at. IsIn c.args.p.now at c.args.block)) c.in-Some.is c.loop-node.invariant.there in
    let old = values_from c.args.p.now c.args.block (Some c.in-Some.at) in
    let less = shorter old (values_from c.args.p.now c.args.block c.next-node.result) c.value-value_at.result.now (c.value-value_at.ensures.head c.args.block there) (c.next-node.ensures.rest c.args.block there) in
    subst (λ (o : Option ℕ). length (values_from c.args.p.now c.args.block c.next-node.result) < length (values_from c.args.p.now c.args.block o)) (sym c.in-Some.is) less
