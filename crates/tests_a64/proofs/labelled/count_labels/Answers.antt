use Rattle.std.proofs.Common.{◌∙◌, sym, arith}
use Rattle.a64_layout.specs.Text.{is_any_label}
use Rattle.tests_a64.proofs.Counting.{one_counted, none_counted}
use Rattle.tests_a64.proofs.labelled.count_labels.Goals as goal
use Rattle.tests_a64.proofs.labelled.count_labels.Goals.{then-is_label, else-is_label}

pub loop-at-preserved : goal.loop-at-preserved
loop-at-preserved c =
    elim c.if-is_label.branch [
      | then-is_label w ↦ record {
        count_is = w.count-is
            ∙ one_counted is_any_label c.args.code.now c.loop-at.at c.loop-at.count c.get.result.now c.get.ensures c.loop-at.invariant.count_is
            (sym c.is_label.ensures ∙ w.if-is_label.true);
        most = omega (arith, w.count-is, c.loop-at.invariant.most);
      }
      | else-is_label w ↦ record {
        count_is = w.count-is
            ∙ none_counted is_any_label c.args.code.now c.loop-at.at c.loop-at.count c.get.result.now c.get.ensures c.loop-at.invariant.count_is
            (sym c.is_label.ensures ∙ w.if-is_label.false);
        most = omega (arith, w.count-is, c.loop-at.invariant.most);
      }
    ]
