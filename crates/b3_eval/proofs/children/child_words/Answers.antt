use Rattle.std.proofs.Common.{◌<◌, List, ℕ, suc, length, drop, sym, ap, add-one, ◌∙◌, arith}
use Rattle.std.proofs.Math.Seq.{drop-cons}
use Rattle.std.specs.BTreeMap as tree
use Rattle.std.specs.Ordering.{nat_cmp}
use Rattle.b3_eval.proofs.Gathered.{joined, words-more, words-none}
use Rattle.b3_eval.specs.Lookup.{type_in}
use Rattle.b3_meaning.specs.Run.{words_of}
use Rattle.b3_eval.proofs.children.child_words.Goals as goal

pub returns-in-None : goal.returns-in-None
returns-in-None c =
    let lt : c.loop-child.child-index < length c.args.children.now = omega arith in
    sym (c.loop-child.invariant
    ∙ words-none (type_in c.args.types.now) (tree.get nat_cmp c.args.words.now) c.loop-child.found (drop c.loop-child.child-index c.args.children.now) _ _
    (drop-cons c.args.children.now c.loop-child.child-index 0 lt) (sym c.in-None.ensures))

pub loop-child-preserved : goal.loop-child-preserved
loop-child-preserved c =
    let lt : c.loop-child.child-index < length c.args.children.now = omega arith in
    rw add-one
    (c.loop-child.invariant
    ∙ words-more (type_in c.args.types.now) (tree.get nat_cmp c.args.words.now) c.loop-child.found (drop c.loop-child.child-index c.args.children.now) _ _
    c.in-Some.word
    (drop-cons c.args.children.now c.loop-child.child-index 0 lt) (sym c.in-Some.ensures)
    ∙ ap (λ (found : List ℕ). joined found (words_of (type_in c.args.types.now) (tree.get nat_cmp c.args.words.now) (drop (suc c.loop-child.child-index)
    c.args.children.now))) (sym c.in_ok-push-in-Some.ensures.ok))
