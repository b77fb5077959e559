use Rattle.std.proofs.Common.{◌∙◌, sym, arith}
use Rattle.a64_layout.specs.Text.{is_any_mark}
use Rattle.tests_a64.proofs.Counting.{one_counted, none_counted}
use Rattle.tests_a64.proofs.labelled.count_marks.Goals as goal
use Rattle.tests_a64.proofs.labelled.count_marks.Goals.{then-is_mark, else-is_mark}

pub loop-at-preserved : goal.loop-at-preserved
loop-at-preserved c =
    elim c.if-is_mark.branch [
      | then-is_mark w ↦ record {
        count_is = w.count-is
            ∙ one_counted is_any_mark c.args.code.now c.loop-at.at c.loop-at.count c.get.result.now c.get.ensures c.loop-at.invariant.count_is
            (sym c.is_mark.ensures ∙ w.if-is_mark.true);
        most = omega (arith, w.count-is, c.loop-at.invariant.most);
      }
      | else-is_mark w ↦ record {
        count_is = w.count-is
            ∙ none_counted is_any_mark c.args.code.now c.loop-at.at c.loop-at.count c.get.result.now c.get.ensures c.loop-at.invariant.count_is
            (sym c.is_mark.ensures ∙ w.if-is_mark.false);
        most = omega (arith, w.count-is, c.loop-at.invariant.most);
      }
    ]
