use Rattle.std.proofs.Common.{ap, arith}
use Rattle.b3_meaning.specs.Run.{checks_result}
use Rattle.b3_eval.proofs.Stepping.{shows_same, two_words}
use Rattle.b3_eval.specs.Stands.{state_of}
use Rattle.b3_eval.proofs.checks.checked_result.Goals as goal

pub returns-in-len2-up : goal.returns-in-len2-up
returns-in-len2-up c = λ rest.
    shows_same _ _ _ _
    (ap (checks_result (state_of rest c.args.st.now) c.args.v.now c.args.kind) (two_words c.args.words.now (omega arith)))
    (c.checked_on.ensures rest)
