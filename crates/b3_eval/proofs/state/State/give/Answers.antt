use Rattle.b3_eval.proofs.Stepping.{given_word}
use Rattle.b3_eval.proofs.state.State.give.Goals as goal

pub returns-in_ok-put-in-Some : goal.returns-in_ok-put-in-Some
returns-in_ok-put-in-Some c = λ rest outcome e. given_word rest c.args.self.now c.put.new.words c.args.id _ _ outcome e c.in-Some.is
    c.in_ok-put-in-Some.ensures
