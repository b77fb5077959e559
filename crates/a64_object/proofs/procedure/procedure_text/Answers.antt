use Rattle.std.proofs.Common.{◌∙◌, refl}
use Rattle.air_select.specs.Contract.{procedure_at}
use Rattle.a64_object.proofs.SiteLists.{marks_short}
use Rattle.a64_object.proofs.Making.{room_asked, short_asked, slots_asked}
use Rattle.a64_object.proofs.procedure.procedure_text.Goals as goal

pub layout-requires-clause-slots : goal.layout-requires-clause-slots
layout-requires-clause-slots c = slots_asked (procedure_at c.args.valid.now c.args.proc) c.in_ok-placed.placed c.keeps_rules.ensures.valid c.in_ok-placed.ensures.placed

pub layout-requires-clause-room : goal.layout-requires-clause-room
layout-requires-clause-room c = room_asked (procedure_at c.args.valid.now c.args.proc) c.in_ok-placed.placed c.requires.slots c.in_ok-placed.ensures.placed

pub emit-requires-clause-short : goal.emit-requires-clause-short
emit-requires-clause-short c = short_asked (procedure_at c.args.valid.now c.args.proc) c.in_ok-placed.placed c.requires.limits c.in_ok-placed.ensures.placed

pub returns-clause-made : goal.returns-clause-made
returns-clause-made c = record {
  air = c.in_ok-placed.placed;
  frame = c.in_ok-frame.frame;
  code = c.in_ok-emitted.emitted.code;
  sites = c.in_ok-emitted.emitted.sites;
  text = c.in_ok-text.text;
  placed = c.in_ok-placed.ensures.placed;
  coloured = c.in_ok-placed.ensures.coloured;
  is_frame = c.in_ok-frame.ensures;
  is_code = c.in_ok-emitted.ensures;
  is_text = c.in_ok-text.ensures.text;
  few = c.in_ok-text.ensures.words;
  marked = c.in_ok-text.ensures.marks ∙ c.in_ok-emitted.ensures.marks;
  words_are = refl;
  row_is = c.in_ok-row.ensures;
  rows_are = refl;
}

pub returns-clause-marks : goal.returns-clause-marks
returns-clause-marks c = c.in_ok-text.ensures.marks ∙ c.in_ok-emitted.ensures.marks

pub returns-clause-within : goal.returns-clause-within
returns-clause-within c =
    marks_short c.in_ok-emitted.emitted.code c.in_ok-text.text c.in_ok-emitted.ensures.labelled c.in_ok-text.ensures.text c.in_ok-text.ensures.marks
