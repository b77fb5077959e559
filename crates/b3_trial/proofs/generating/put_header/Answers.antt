use Rattle.std.proofs.Common.{◌++◌, ℕ, ap, ◌∙◌}
use Rattle.std.specs.Prelude.{codes}
use Rattle.std.specs.Fmt.{decimal}
use Rattle.std.proofs.lemmas.Result.{on_ok_weaker}
use Rattle.b3_rows.specs.declared.row.Row.TheVariants.{Header}
use Rattle.b3_trial.proofs.GeneratedLemmas.{one_text, two_parts}
use Rattle.b3_trial.proofs.generating.put_header.Goals as goal

pub returns : goal.returns
returns c =
    on_ok_weaker c.put_end.result
    (λ ok. one_text c.args.out.now c.put_decimal.new.out c.put_end.new.out (Header (codes "g" ++ decimal c.args.p))
    (two_parts c.args.out.now c.extend.new.self c.put_decimal.new.out (codes "procedure g") (decimal c.args.p) c.in_ok-extend.ensures.ok
    (c.in_ok-put_decimal.ensures ∙ ap (λ (n : ℕ). c.extend.new.self ++ decimal n) c.from.ensures)) ok)
    c.put_end.ensures
