use Rattle.std.proofs.Common.{ℕ, ◌<◌, length, Option, sym, ap, subst, ◌∙◌}
use Rattle.std.specs.BTreeMap as tree
use Rattle.std.specs.Ordering.{nat_cmp}
use Rattle.b3_base.proofs.Lists.{head_and_rest, shorter}
use Rattle.b3_ir.specs.Procedure.{values_from}
use Rattle.b3_eval.proofs.Typed.{one_more_type}
use Rattle.b3_eval.specs.Lookup.{with_types}
use Rattle.b3_eval.proofs.types.add_block.Goals as goal

pub loop-at-smaller : goal.loop-at-smaller
loop-at-smaller c =
    let there = rw c.in-Some.is at c.loop-at.invariant.there in
    subst (λ (at : Option ℕ). length (values_from c.args.p.now c.args.block c.next-at.result) < length (values_from c.args.p.now c.args.block at)) (sym
    c.in-Some.is)
    (shorter _ _ _ (c.value-value.ensures.head c.args.block there) (c.next-at.ensures.rest c.args.block there))

pub loop-at-preserved : goal.loop-at-preserved
loop-at-preserved c =
    let there = rw c.in-Some.is at c.loop-at.invariant.there in
    let same = rw c.in-Some.is at c.loop-at.invariant.same in
    let head = c.value-value.ensures.head c.args.block there in
    record {
      there = c.next-at.ensures.there c.args.block there;
      same = ap (with_types (tree.get nat_cmp c.add.new.types)) (c.next-at.ensures.rest c.args.block there)
          ∙ one_more_type (tree.get nat_cmp c.loop-at.types) _ _ _ c.value-value.result.now _ (head_and_rest _ _ head) same c.in_ok-add.ensures;
    }
