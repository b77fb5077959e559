use Rattle.std.proofs.Common.{}
use Rattle.std.proofs.lemmas.Result.{on_ok_weaker}
use Rattle.b3_rows.specs.declared.row.Row.TheVariants.{One}
use Rattle.b3_trial.proofs.GeneratedLemmas.{one_text}
use Rattle.b3_trial.proofs.generating.put_one.Goals as goal

pub returns : goal.returns
returns c = on_ok_weaker c.put_end.result (λ ok. one_text c.args.out.now c.write_one.new.out c.put_end.new.out (One c.args.target)
    c.in_ok-write_one.ensures ok) c.put_end.ensures
