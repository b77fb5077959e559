use Rattle.std.proofs.Common.{arith}
use Rattle.b3_eval.proofs.Stepping.{one_word, phi_set}
use Rattle.b3_eval.proofs.state.State.set_phi.Goals as goal

pub returns-in_ok-put-in-Target-len1 : goal.returns-in_ok-put-in-Target-len1
returns-in_ok-put-in-Target-len1 c = λ rest.
    phi_set rest c.args.self.now c.put.new.words c.args.body.now _ _ c.args.words.now c.in-Target-len1.is-0 (one_word c.args.words.now (omega arith))
    c.in_ok-put-in-Target-len1.ensures
