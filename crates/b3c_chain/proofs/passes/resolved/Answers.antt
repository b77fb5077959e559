use Rattle.air_select.specs.Contract.{procedure_at}
use Rattle.a64_object.proofs.Making.{room_asked, short_asked, slots_asked}
use Rattle.b3c_chain.proofs.passes.resolved.Goals as goal

pub layout-requires-clause-slots : goal.layout-requires-clause-slots
layout-requires-clause-slots c = slots_asked (procedure_at c.args.valid.now c.args.proc) c.args.placed.now c.keeps_rules.ensures.valid c.requires.placed

pub layout-requires-clause-room : goal.layout-requires-clause-room
layout-requires-clause-room c = room_asked (procedure_at c.args.valid.now c.args.proc) c.args.placed.now c.requires.slots c.requires.placed

pub emit-requires-clause-short : goal.emit-requires-clause-short
emit-requires-clause-short c = short_asked (procedure_at c.args.valid.now c.args.proc) c.args.placed.now c.requires.limits c.requires.placed
