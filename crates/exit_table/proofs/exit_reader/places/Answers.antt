use Rattle.std.proofs.lemmas.Result.{err_from_is_err_and}
use Rattle.b3_base.specs.Fields.{fields}
use Rattle.exit_table.specs.ExitReading.{place_at, after_place}
use Rattle.exit_table.specs.Homes.{room_of}
use Rattle.exit_table.proofs.Loop.{goes_on, stops, is_done}
use Rattle.exit_table.proofs.exit_reader.places.Goals as goal

pub returns-in_err-row : goal.returns-in_err-row
returns-in_err-row c =
    let p = err_from_is_err_and c.from_residual.result c.from_residual.ensures.1 in
    rw (p.1, p.2) (stops (place_at c.args.kind (room_of c.args.home.now)) after_place c.in_err-row.field-0.0 c.loop-i.places c.loop-i.i c.args.count c.loop-i.i (fields c.loop-i.left.now) _ c.loop-i-test.true c.in_err-row.ensures c.loop-i.invariant)

pub loop-i-preserved : goal.loop-i-preserved
loop-i-preserved c =
    rw c.in_ok-push.ensures.ok (goes_on (place_at c.args.kind (room_of c.args.home.now)) after_place c.loop-i.places c.loop-i.i c.args.count c.loop-i.i (fields c.loop-i.left.now) c.in_ok-row.row (fields c.in_ok-row.rest.now) _ c.loop-i-test.true c.in_ok-row.ensures c.loop-i.invariant)

pub returns : goal.returns
returns c = is_done (place_at c.args.kind (room_of c.args.home.now)) after_place c.loop-i.places c.loop-i.i c.args.count c.loop-i.i (fields c.loop-i.left.now) _ c.loop-i-test.false c.loop-i.invariant
