use Rattle.std.proofs.Common.{ap, sym, subst, ◌∙◌, arith, rules}
use Rattle.std.specs.Prelude.{map}
use Rattle.std.specs.List.Sorted.{IsPermutation}
use Rattle.std.proofs.lemmas.List.{take_all}
use Rattle.std.proofs.lemmas.List.Sorted.{IsNonDecreasingBy-from_sort, answers_always}
use Rattle.a64_emit.specs.declared.case.Case.{Case}
use Rattle.a64_emit.proofs.InOrder.{listed, listed_next, sorted_is}
use Rattle.a64_emit.proofs.switched.cases_in_order.Goals as goal

pub loop-k-preserved : goal.loop-k-preserved
loop-k-preserved c =
    listed_next c.args.width c.args.cases.now c.args.targets.now c.loop-k.k c.get.result.now c.loop-k.ordered.items c.push.new.self.items
    c.requires c.get.ensures c.loop-k.invariant (rw (sym c.low_word-word.ensures, sym c.target_at-target.ensures) (search rules))

pub returns : goal.returns
returns c =
    sorted_is c.args.width c.args.cases.now c.args.targets.now c.sort_unstable_by_key.new.self.items
    (subst (λ xs. IsPermutation xs c.sort_unstable_by_key.new.self.items)
    (c.loop-k.invariant ∙ ap (map (listed c.args.width c.args.cases.now c.args.targets.now)) (take_all c.loop-k.k c.args.cases.now (omega arith)))
    c.sort_unstable_by_key.ensures.permutation)
    (IsNonDecreasingBy-from_sort (λ (case : Case). case.word) _ (c.sort_unstable_by_key.ensures.sorted (λ (case : Case). case.word)
    (answers_always _ _ _ (λ f a r g h. search rules))))
