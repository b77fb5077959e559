use Rattle.std.proofs.Common.{◌≡◌, drop}
use Rattle.std.specs.BTreeMap as tree
use Rattle.std.specs.Ordering.{nat_cmp}
use Rattle.b3_meaning.specs.Run.{words_of}
use Rattle.b3_eval.specs.Lookup.{type_in}
use Rattle.b3_eval.proofs.Gathered.{joined}
use Rattle.b3_eval.proofs.children.child_words.Given as goal

abbrev pub invariant-loop-child : goal.invariant-loop-child
invariant-loop-child l =
    words_of (type_in l.types) (tree.get nat_cmp l.words) l.children
    ≡ joined l.found (words_of (type_in l.types) (tree.get nat_cmp l.words) (drop l.child-index l.children))
