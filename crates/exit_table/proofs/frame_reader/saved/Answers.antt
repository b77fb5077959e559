use Rattle.std.proofs.Common.{refl, ◌∙◌, sym, ap, map, Bool}
use Rattle.std.proofs.lemmas.Result.{err_from_is_err_and}
use Rattle.std.proofs.lemmas.List.{map_push}
use Rattle.b3_base.specs.Fields.{fields}
use Rattle.exit_table.specs.Good.{Span, saved_span}
use Rattle.exit_table.specs.FrameReading.{without, saved_at, after_saved}
use Rattle.exit_table.specs.Taken.{left_by, leaves}
use Rattle.exit_table.proofs.Loop.{goes_on, stops, is_done, begins}
use Rattle.exit_table.proofs.TakenLaws.{leaves_push, leaves_all}
use Rattle.exit_table.proofs.FrameLaws.{saved_room}
use Rattle.exit_table.proofs.frame_reader.saved.Goals as goal

pub returns-in_err-row-clause-read : goal.returns-in_err-row-clause-read
returns-in_err-row-clause-read c =
    let p = err_from_is_err_and c.from_residual.result c.from_residual.ensures.1 in
    rw (p.1, p.2) (stops (saved_at c.args.header.bytes) after_saved c.in_err-row.field-0.0 c.loop.saved (record { clear = left_by c.loop.taken.entries; least = c.loop.least }) c.args.header.saved c.loop.counter (fields c.loop.left.now) _ c.loop-test.true c.in_err-row.ensures c.loop.invariant.0)

pub take-requires-clause-most : goal.take-requires-clause-most
take-requires-clause-most c = (saved_room c.args.header.bytes (record { clear = left_by c.loop.taken.entries; least = c.loop.least }) (fields c.loop.left.now) (c.in_ok-row.row, fields c.in_ok-row.rest.now) c.in_ok-row.ensures).0

pub take-requires-clause-clear : goal.take-requires-clause-clear
take-requires-clause-clear c = (saved_room c.args.header.bytes (record { clear = left_by c.loop.taken.entries; least = c.loop.least }) (fields c.loop.left.now) (c.in_ok-row.row, fields c.in_ok-row.rest.now) c.in_ok-row.ensures).1

pub loop-preserved : goal.loop-preserved
loop-preserved c =
    let joined = c.in_ok-take.ensures in
    let span : Span = saved_span c.in_ok-row.row in
    let more = goes_on (saved_at c.args.header.bytes) after_saved c.loop.saved (record { clear = left_by c.loop.taken.entries; least = c.loop.least }) c.args.header.saved c.loop.counter (fields c.loop.left.now) c.in_ok-row.row (fields c.in_ok-row.rest.now) _ c.loop-test.true c.in_ok-row.ensures c.loop.invariant.0 in
    let before : Span → Bool = left_by c.args.taken.now.entries in
    rw (c.in_ok-push.ensures.ok, joined.taken, c.from-least.ensures) (
      more,
      joined.stacked,
      ap (λ (f : Span → Bool). without f span) c.loop.invariant.2 ∙ sym (leaves_push before (map saved_span c.loop.saved) span) ∙ ap (leaves before) (sym (map_push saved_span c.loop.saved c.in_ok-row.row)),
    )

pub returns-clause-read : goal.returns-clause-read
returns-clause-read c = is_done (saved_at c.args.header.bytes) after_saved c.loop.saved (record { clear = left_by c.loop.taken.entries; least = c.loop.least }) c.args.header.saved c.loop.counter (fields c.loop.left.now) _ c.loop-test.false c.loop.invariant.0

pub loop-init : goal.loop-init
loop-init c = rw c.new-saved.ensures (begins (saved_at _) after_saved _ _ 0 _ refl, c.requires, sym (leaves_all _))
