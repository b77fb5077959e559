use Rattle.std.proofs.Common.{◌++◌, Some, Option, ℕ, ap, subst, sym, ◌∙◌}
use Rattle.std.specs.Prelude.{IfSome}
use Rattle.std.specs.List.{flat_map}
use Rattle.b3_ir.specs.Procedure.{IsIn, values_from}
use Rattle.b3_module.specs.Canonical.{rows_of_value}
use Rattle.b3_print.specs.Printed.{text_of}
use Rattle.b3_print.proofs.TextLemmas.{value_next}
use Rattle.b3_print.proofs.printing.put_values.Goals as goal

pub loop-node-preserved : goal.loop-node-preserved
loop-node-preserved c =
    let there : IsIn c.args.p.now c.in-Some.at c.args.block = subst (λ (o : Option ℕ). IfSome o (λ at. IsIn c.args.p.now at c.args.block)) c.in-Some.is c.loop-node.invariant.there in
    let old = values_from c.args.p.now c.args.block (Some c.in-Some.at) in
    let same = ap (λ (o : Option ℕ). c.loop-node.out ++ text_of (flat_map rows_of_value (values_from c.args.p.now c.args.block o))) c.in-Some.is in
    record {
      there = c.next-node.ensures.there c.args.block there;
      same = value_next c.loop-node.out c.put_value.new.out old (values_from c.args.p.now c.args.block c.next-node.result) c.value.result.now (c.value.ensures.head c.args.block there) (c.next-node.ensures.rest c.args.block there) c.in_ok-put_value.ensures ∙ sym same ∙ c.loop-node.invariant.same;
    }
