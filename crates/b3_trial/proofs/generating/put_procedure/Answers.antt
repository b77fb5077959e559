use Rattle.std.proofs.Common.{ap, sym, ◌∙◌}
use Rattle.std.proofs.lemmas.Result.{on_ok_weaker}
use Rattle.b3_trial.specs.Generated.{state_behind}
use Rattle.b3_trial.proofs.GeneratedLemmas.{behind_more}
use Rattle.b3_trial.proofs.generating.put_procedure.Goals as goal

pub returns-clause-moved : goal.returns-clause-moved
returns-clause-moved c =
    on_ok_weaker c.put_last.result
    (λ ok. c.in_ok-put_operations.ensures.moved ∙ ap (state_behind 1500) c.draw-constant.ensures.moved ∙ sym (behind_more 1500 c.args.state.now))
    c.put_last.ensures
