use Rattle.std.proofs.Common.{ℕ, List, ◌<◌, length, Option, sym, ap, subst, ◌∙◌}
use Rattle.b3_base.proofs.Lists.{head_and_rest, shorter}
use Rattle.b3_base.specs.Observed.{start_of}
use Rattle.b3_ir.specs.Procedure.{values_from, values_of}
use Rattle.b3_ir.specs.declared.value.Value.{Value}
use Rattle.b3_meaning.specs.Run.{run_values}
use Rattle.b3_eval.proofs.Walks.{stepped_lost, stepped_next, stepped_over, stepped_to}
use Rattle.b3_eval.specs.Lookup.{type_in}
use Rattle.b3_eval.specs.Stands.{answers_from, state_of}
use Rattle.b3_eval.proofs.run.block_step.Goals as goal

pub loop-at-smaller : goal.loop-at-smaller
loop-at-smaller c =
    let there = rw c.in-Some.is at c.loop-at.invariant.there in
    subst (λ (at : Option ℕ). length (values_from c.args.p.now c.args.block c.next-at.result) < length (values_from c.args.p.now c.args.block at)) (sym
    c.in-Some.is)
    (shorter _ _ _ (c.value.ensures.head c.args.block there) (c.next-at.ensures.rest c.args.block there))

pub loop-at-preserved : goal.loop-at-preserved
loop-at-preserved c =
    let there = rw c.in-Some.is at c.loop-at.invariant.there in
    let same = rw c.in-Some.is at c.loop-at.invariant.same in
    let new = state_of (answers_from c.args.answers.now c.effect.new.taken) c.effect.new.st in
    record {
      there = c.next-at.ensures.there c.args.block there;
      same = same
          ∙ stepped_next (type_in c.args.types.now) (start_of c.args.start.now) _ _ c.value.result.now _ new _ (head_and_rest _ _ (c.value.ensures.head
          c.args.block there)) c.in-Next.is c.in_ok-effect.ensures
          ∙ ap (λ (vs : List Value). run_values (type_in c.args.types.now) (start_of c.args.start.now) vs new) (sym (c.next-at.ensures.rest c.args.block
          there));
    }

pub returns-in-To : goal.returns-in-To
returns-in-To c =
    let there = rw c.in-Some.is at c.loop-at.invariant.there in
    let same = rw c.in-Some.is at c.loop-at.invariant.same in
    same ∙ stepped_to (type_in c.args.types.now) (start_of c.args.start.now) _ _ c.value.result.now _ _ _ _ (head_and_rest _ _ (c.value.ensures.head
    c.args.block there)) c.in-To.is c.in_ok-effect.ensures

pub returns-in-Over : goal.returns-in-Over
returns-in-Over c =
    let there = rw c.in-Some.is at c.loop-at.invariant.there in
    let same = rw c.in-Some.is at c.loop-at.invariant.same in
    same ∙ stepped_over (type_in c.args.types.now) (start_of c.args.start.now) _ _ c.value.result.now _ _ _ _ (head_and_rest _ _ (c.value.ensures.head
    c.args.block there)) c.in-Over.is c.in_ok-effect.ensures

pub returns-in-Lost : goal.returns-in-Lost
returns-in-Lost c =
    let there = rw c.in-Some.is at c.loop-at.invariant.there in
    let same = rw c.in-Some.is at c.loop-at.invariant.same in
    stepped_lost (type_in c.args.types.now) (start_of c.args.start.now) (values_of c.args.p.now.procedure c.args.block) _ _ c.value.result.now
    (state_of (answers_from c.args.answers.now c.args.taken.now) c.args.st.now) _ _ _ same (head_and_rest _ _ (c.value.ensures.head c.args.block there))
    c.in-Lost.is c.in_ok-effect.ensures
