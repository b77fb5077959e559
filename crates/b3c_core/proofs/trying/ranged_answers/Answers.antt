use Rattle.std.proofs.Common.{◌<◌, arith, length, subst, sym}
use Rattle.std.proofs.Math.ListN.{length-map}
use Rattle.std.proofs.lemmas.List.{get_or-map}
use Rattle.b3_base.specs.Observed.{answer_of}
use Rattle.b3_base.specs.Ranged.{IsRangedAnswer}
use Rattle.b3_base.specs.declared.answer.Answer.TheVariants.{Leave}
use Rattle.b3c_core.proofs.trying.ranged_answers.Goals as goal

pub returns : goal.returns
returns c = λ k d below.
    let answers = c.args.answers.now in
    let short : k < length answers = rw length-map at below in
    let passed : k < c.loop-answer.answer-index = omega (arith, short, c.loop-answer-test.false) in
    subst IsRangedAnswer (sym (get_or-map answer_of answers k Leave d short)) (c.loop-answer.invariant k Leave passed)
