use Rattle.std.proofs.lemmas.Result.{on_ok_weaker}
use Rattle.b3_rows.specs.declared.row.Row.TheVariants.{Two}
use Rattle.b3_trial.proofs.GeneratedLemmas.{one_text}
use Rattle.b3_trial.proofs.generating.put_two.Goals as goal

pub returns : goal.returns
returns c = on_ok_weaker c.put_end.result (λ ok. one_text c.args.out.now c.write_two.new.out c.put_end.new.out (Two c.args.then_block
    c.args.else_block) c.in_ok-write_two.ensures ok) c.put_end.ensures
