use Rattle.std.proofs.Common.{◌-◌, ◌≤◌, length, subst, sym, arith}
use Rattle.b3_trial.specs.Generated.{procedures_from, text_of}
use Rattle.b3_trial.proofs.GeneratedLemmas.{procedure_more, procedures_done, text_ends}
use Rattle.b3_trial.proofs.GeneratedSizes.{generated_short}
use Rattle.b3_trial.proofs.generating.generate.Goals as goal

pub loop-p-preserved : goal.loop-p-preserved
loop-p-preserved c =
    procedure_more c.loop-p.out c.put_procedure.new.out (text_of (procedures_from 16 c.args.n 0)) 16 c.loop-p.state c.put_procedure.new.state c.loop-p.p
    (omega arith) c.in_ok-put_procedure.ensures.moved c.in_ok-put_procedure.ensures.text c.loop-p.invariant

pub returns-clause-text : goal.returns-clause-text
returns-clause-text c =
    text_ends c.loop-p.out (text_of (procedures_from 16 c.args.n 0)) (procedures_from (16 - c.loop-p.p) c.loop-p.state c.loop-p.p)
    (procedures_done (16 - c.loop-p.p) c.loop-p.state c.loop-p.p (omega arith)) c.loop-p.invariant

pub returns-clause-small : goal.returns-clause-small
returns-clause-small c = subst (λ text. length text ≤ 16_777_216) (sym (returns-clause-text c)) (generated_short c.args.n)
