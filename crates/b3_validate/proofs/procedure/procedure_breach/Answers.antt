use Rattle.b3_rules.specs.Valid.{Header}
use Rattle.b3_validate.proofs.Parts.{front, one_part, whole_procedure}
use Rattle.b3_validate.proofs.procedure.procedure_breach.Goals as goal

pub returns : goal.returns
returns c =
    let p = c.args.p.now.procedure in
    let header = one_part p Header tt c.line.result c.header_breach.result c.spot_on-of_header.result c.line.ensures c.header_breach.ensures c.spot_on-of_header.ensures in
    let before = front p c.spot_on-of_header.result c.slots_breach-of_slots.result c.sooner-of_front.result c.sooner-of_front.ensures header c.slots_breach-of_slots.ensures in
    whole_procedure p c.sooner-of_front.result c.in_ok-of_blocks.of_blocks c.sooner.result c.sooner.ensures before c.in_ok-of_blocks.ensures
