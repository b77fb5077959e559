use Rattle.std.proofs.Common.{◌∙◌}
use Rattle.air_select.specs.Contract.{procedure_at}
use Rattle.a64_object.specs.Made.{site_rows}
use Rattle.a64_object.proofs.Joining.{named_there, pushed}
use Rattle.a64_object.proofs.object.push_procedure.Goals as goal

pub returns : goal.returns
returns c =
    pushed c.args.object.now (procedure_at c.args.valid.now c.args.at) c.in_ok-made.made.words c.in_ok-made.made.row
    (site_rows c.in_ok-made.made.marks c.in_ok-made.made.sites)
    c.push_words.new.text c.push.new.self c.push-2.new.self c.push_sites.new.rows c.in_ok-from_text.field-0 c.len.result c.len-first.result c.len-2.result
    c.in_ok-made.ensures.made c.in_ok-push_words.ensures c.in_ok-push.ensures.ok c.in_ok-push-2.ensures.ok c.in_ok-push_sites.ensures
    (c.in_ok-from_text.ensures ∙ c.name.ensures
    ∙ named_there c.module.result.now c.args.valid.now c.args.at c.proc.result.now c.module.ensures.same c.proc.ensures)
    c.len.ensures c.len-first.ensures c.len-2.ensures
