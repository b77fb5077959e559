use Rattle.std.proofs.Common.{◌≡◌, Some, map, rules}
use Rattle.std.specs.BTreeMap as tree
use Rattle.std.specs.Ordering.{nat_cmp}
use Rattle.b3_meaning.specs.Run.{words_of}
use Rattle.b3_eval.proofs.Gathered.{words_typed}
use Rattle.b3_eval.specs.Lookup.{type_in}
use Rattle.b3_eval.proofs.effect.effect.Goals as goal

pub by_role-requires-clause-words : goal.by_role-requires-clause-words
by_role-requires-clause-words c =
    let types : c.as_slice-in-Some.result.now ≡ map (type_in c.args.types.now) c.args.v.now.children = search rules in
    let words : Some c.as_slice-in-Some-2.result.now ≡ words_of (type_in c.args.types.now) (tree.get nat_cmp c.args.st.now.words) c.args.v.now.children =
    search rules in
    words_typed (type_in c.args.types.now) (tree.get nat_cmp c.args.st.now.words) c.args.v.now.children _ _ types words
