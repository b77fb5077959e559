use Rattle.std.proofs.Common.{sym, ap, arith, rules}
use Rattle.a64_emit.specs.Trees.{node_count, tree}
use Rattle.a64_emit.proofs.Trees.{count_few, count_more, rest_is}
use Rattle.a64_emit.proofs.switched.+tree_labels.Goals as goal

pub returns-then-cases-le3 : goal.returns-then-cases-le3
returns-then-cases-le3 t c = sym (count_few c.args.cases.now (omega arith))

pub tree_labels-requires : goal.tree_labels-requires
tree_labels-requires t c =
    (search rules, let count = count_more c.args.cases.now 0 (omega arith) in omega (arith, c.requires))

pub overflow_add-result : goal.overflow_add-result
overflow_add-result t c = let count = count_more c.args.cases.now 0 (omega arith) in omega (arith, c.requires, c.tree_labels.ensures)

pub tree_labels-requires-2 : goal.tree_labels-requires-2
tree_labels-requires-2 t c =
    (search rules, let count = count_more c.args.cases.now 0 (omega arith) in let same = ap (λ xs. node_count (tree xs)) (rest_is c.args.cases.now) in omega (arith, c.requires))

pub overflow_add-result-2 : goal.overflow_add-result-2
overflow_add-result-2 t c =
    let count = count_more c.args.cases.now 0 (omega arith) in
    let same = ap (λ xs. node_count (tree xs)) (rest_is c.args.cases.now) in
    omega (arith, c.requires, c.tree_labels.ensures, c.tree_labels-2.ensures)

pub returns : goal.returns
returns t c =
    let count = count_more c.args.cases.now 0 (omega arith) in
    let same = ap (λ xs. node_count (tree xs)) (rest_is c.args.cases.now) in
    omega (arith, c.tree_labels.ensures, c.tree_labels-2.ensures)
