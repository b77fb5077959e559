use Rattle.std.proofs.Common.{◌++◌, ap, ◌∙◌}
use Rattle.std.proofs.lemmas.Result.{on_ok_weaker}
use Rattle.b3_rows.specs.declared.row.Row.{Row}
use Rattle.b3_rows.specs.Written.{line_of_row}
use Rattle.b3_trial.specs.Generated.{value_row}
use Rattle.b3_trial.proofs.GeneratedLemmas.{one_text, value_same}
use Rattle.b3_trial.proofs.generating.put_value.Goals as goal

pub returns : goal.returns
returns c =
    let same = value_same c.args.ty c.args.id c.args.opcode c.plain.result c.in_ok-children_of.field-0 c.args.ids.now c.args.body c.plain.ensures
    c.in_ok-children_of.ensures in
    on_ok_weaker c.put_end.result
    (λ ok. one_text c.args.out.now c.write_value.new.out c.put_end.new.out (value_row c.args.ty c.args.id c.args.opcode c.args.ids.now c.args.body)
    (c.in_ok-write_value.ensures ∙ ap (λ (row : Row). c.args.out.now ++ line_of_row row) same) ok)
    c.put_end.ensures
