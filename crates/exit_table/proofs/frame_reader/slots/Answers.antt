use Rattle.std.proofs.Common.{◌∙◌, sym, ap, map, Bool}
use Rattle.std.proofs.lemmas.Result.{err_from_is_err_and}
use Rattle.std.proofs.lemmas.List.{map_push}
use Rattle.b3_base.specs.Fields.{fields}
use Rattle.exit_table.specs.Good.{Span, slot_span}
use Rattle.exit_table.specs.FrameReading.{is_clear, without, slot_at, after_slot}
use Rattle.exit_table.specs.Taken.{left_by}
use Rattle.exit_table.proofs.Loop.{goes_on, stops, is_done}
use Rattle.exit_table.proofs.TakenLaws.{without_push}
use Rattle.exit_table.proofs.FrameLaws.{slot_room}
use Rattle.exit_table.proofs.frame_reader.slots.Goals as goal

pub returns-in_err-row-clause-read : goal.returns-in_err-row-clause-read
returns-in_err-row-clause-read c =
    let p = err_from_is_err_and c.from_residual.result c.from_residual.ensures.1 in
    rw (p.1, p.2) (stops (slot_at c.args.header.bytes) after_slot c.in_err-row.field-0.0 c.loop.slots (left_by c.loop.taken.entries) c.args.header.slots c.loop.counter (fields c.loop.left.now) _ c.loop-test.true c.in_err-row.ensures c.loop.invariant.0)

pub take-requires-clause-least : goal.take-requires-clause-least
take-requires-clause-least c = (slot_room c.args.header.bytes (left_by c.loop.taken.entries) (fields c.loop.left.now) (c.in_ok-row.row, fields c.in_ok-row.rest.now) c.in_ok-row.ensures).0

pub take-requires-clause-most : goal.take-requires-clause-most
take-requires-clause-most c = (slot_room c.args.header.bytes (left_by c.loop.taken.entries) (fields c.loop.left.now) (c.in_ok-row.row, fields c.in_ok-row.rest.now) c.in_ok-row.ensures).1

pub take-requires-clause-clear : goal.take-requires-clause-clear
take-requires-clause-clear c = (slot_room c.args.header.bytes (left_by c.loop.taken.entries) (fields c.loop.left.now) (c.in_ok-row.row, fields c.in_ok-row.rest.now) c.in_ok-row.ensures).2

pub loop-preserved : goal.loop-preserved
loop-preserved c =
    let joined = c.in_ok-take.ensures in
    let span : Span = slot_span c.in_ok-row.row in
    let more = goes_on (slot_at c.args.header.bytes) after_slot c.loop.slots (left_by c.loop.taken.entries) c.args.header.slots c.loop.counter (fields c.loop.left.now) c.in_ok-row.row (fields c.in_ok-row.rest.now) _ c.loop-test.true c.in_ok-row.ensures c.loop.invariant.0 in
    rw (c.in_ok-push.ensures.ok, joined.taken) (
      more,
      joined.stacked,
      ap (λ (f : Span → Bool). without f span) c.loop.invariant.2 ∙ sym (without_push (map slot_span c.loop.slots) span) ∙ ap is_clear (sym (map_push slot_span c.loop.slots c.in_ok-row.row)),
    )

pub returns-clause-read : goal.returns-clause-read
returns-clause-read c = is_done (slot_at c.args.header.bytes) after_slot c.loop.slots (left_by c.loop.taken.entries) c.args.header.slots c.loop.counter (fields c.loop.left.now) _ c.loop-test.false c.loop.invariant.0
