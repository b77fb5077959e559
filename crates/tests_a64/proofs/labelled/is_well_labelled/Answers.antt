use Rattle.std.proofs.Common.{sym, ◌∙◌, arith}
use Rattle.tests_a64.proofs.Checking.{checked}
use Rattle.tests_a64.proofs.labelled.is_well_labelled.Goals as goal

pub returns : goal.returns
returns c = λ there.
    checked c.args.code.now c.args.labels.now c.args.marks.now (sym c.len-2.ensures ∙ (c.if-len-count_labels.false ∙ c.count_labels.ensures))
    (sym c.len-3.ensures ∙ (c.if-len-count_marks.false ∙ c.count_marks.ensures)) (omega (arith, c.len.ensures, c.if-len-ge4194304.false))
    (c.are_good.ensures c.if-not-are_good.false) (c.labels_are_there.ensures c.if-not-labels_are_there.false) (c.marks_are_there.ensures there)
