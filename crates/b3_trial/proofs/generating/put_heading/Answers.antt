use Rattle.std.proofs.Common.{}
use Rattle.std.proofs.lemmas.Result.{on_ok_weaker}
use Rattle.b3_rows.specs.declared.row.Row.TheVariants.{Heading}
use Rattle.b3_trial.proofs.GeneratedLemmas.{one_text}
use Rattle.b3_trial.proofs.generating.put_heading.Goals as goal

pub returns : goal.returns
returns c = on_ok_weaker c.put_end.result (λ ok. one_text c.args.out.now c.write_heading.new.out c.put_end.new.out (Heading c.args.number)
    c.in_ok-write_heading.ensures ok) c.put_end.ensures
