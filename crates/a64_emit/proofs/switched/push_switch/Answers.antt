use Rattle.std.proofs.Common.{ap, subst, sym, ◌∙◌, arith}
use Rattle.a64_emit.specs.Switched.{AreSmall}
use Rattle.a64_emit.specs.Trees.{node_count, tree}
use Rattle.a64_emit.proofs.InOrder.{cases_small}
use Rattle.a64_emit.proofs.Sorting.{search_labels}
use Rattle.a64_emit.proofs.switched.push_switch.Goals as goal

pub push_search-requires-clause-small : goal.push_search-requires-clause-small
push_search-requires-clause-small c =
    subst (AreSmall c.args.width) (sym (c.as_slice.ensures.value ∙ c.in_ok-ordered.ensures)) (cases_small c.args.width c.args.cases.now c.args.targets.now)

pub push_search-requires-clause-labels : goal.push_search-requires-clause-labels
push_search-requires-clause-labels c =
    let same = ap (λ xs. node_count (tree xs)) (c.as_slice.ensures.value ∙ c.in_ok-ordered.ensures) in
    let count = search_labels c.args.width c.args.cases.now c.args.targets.now in
    omega (arith, c.requires.labels)
