use Rattle.std.proofs.Common.{◌∙◌, map, arith}
use Rattle.std.proofs.lemmas.Result.{err_from_is_err_and}
use Rattle.b3_base.specs.Fields.{fields}
use Rattle.exit_table.specs.Reading.{Fails}
use Rattle.exit_table.specs.ExitReading.{site_at, after_site}
use Rattle.exit_table.specs.Homes.{room_of}
use Rattle.exit_table.proofs.Loop.{goes_on, stops, is_done}
use Rattle.exit_table.proofs.SiteLaws.{site_same}
use Rattle.exit_table.proofs.exit_reader.sites.Goals as goal

pub returns-in_err-row : goal.returns-in_err-row
returns-in_err-row c =
    let p = err_from_is_err_and c.from_residual.result c.from_residual.ensures.1 in
    let same = site_same (map room_of c.args.homes.now) (map room_of c.loop.later.now) c.loop.end (fields c.loop.left.now) c.loop.invariant.1 in
    let fails : Fails c.in_err-row.field-0.0 (site_at (map room_of c.args.homes.now) c.loop.end (fields c.loop.left.now)) = rw same c.in_err-row.ensures.read in
    rw (p.1, p.2) (stops (site_at (map room_of c.args.homes.now)) after_site c.in_err-row.field-0.0 c.loop.sites c.loop.end c.args.count c.loop.counter (fields c.loop.left.now) _ c.loop-test.true fails c.loop.invariant.0)

pub loop-preserved : goal.loop-preserved
loop-preserved c =
    let same = site_same (map room_of c.args.homes.now) (map room_of c.loop.later.now) c.loop.end (fields c.loop.left.now) c.loop.invariant.1 in
    rw (c.in_ok-push.ensures.ok, c.from.ensures, c.from-in-loop.ensures) (
      goes_on (site_at (map room_of c.args.homes.now)) after_site c.loop.sites c.loop.end c.args.count c.loop.counter (fields c.loop.left.now) c.in_ok-row.row (fields c.in_ok-row.rest.now) _ c.loop-test.true (same ∙ c.in_ok-row.ensures.read) c.loop.invariant.0,
      λ pc le. c.loop.invariant.1 pc (omega (arith, le, c.in_ok-row.ensures.behind)) ∙ c.in_ok-row.ensures.later pc (omega (arith, le)),
      c.in_ok-row.ensures.stacked,
    )

pub returns : goal.returns
returns c = is_done (site_at (map room_of c.args.homes.now)) after_site c.loop.sites c.loop.end c.args.count c.loop.counter (fields c.loop.left.now) _ c.loop-test.false c.loop.invariant.0
