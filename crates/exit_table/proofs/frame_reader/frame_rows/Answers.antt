use Rattle.std.proofs.Common.{ap, arith, length, ◌+◌, ℕ, ◌<◌, get_or, Bool, length-append}
use Rattle.std.proofs.lemmas.Result.{err_from_is_err_and}
use Rattle.std.proofs.lemmas.List.{take_all}
use Rattle.std.proofs.lemmas.List.Elements.{All-push}
use Rattle.b3_base.specs.Fields.{fields}
use Rattle.b3_base.specs.declared.range.Range.{Range}
use Rattle.exit_table.specs.Good.{Span}
use Rattle.exit_table.specs.FrameReading.{each_frame, after_frame}
use Rattle.exit_table.specs.Homes.{IsStacked}
use Rattle.exit_table.proofs.Loop.{goes_on, stops, is_done}
use Rattle.exit_table.proofs.RoomLaws.{rooms_more}
use Rattle.exit_table.proofs.frame_reader.frame_rows.Goals as goal

pub returns-in_err-row-clause-read : goal.returns-in_err-row-clause-read
returns-in_err-row-clause-read c =
    let p = err_from_is_err_and c.from_residual.result c.from_residual.ensures.1 in
    rw (p.1, p.2) (stops each_frame after_frame c.in_err-row.field-0.0 c.loop-extent.frames tt (length c.args.extents.now) c.loop-extent.extent-index (fields c.loop-extent.left.now) _ c.loop-extent-test.true c.in_err-row.ensures.read c.loop-extent.invariant.0)

pub loop-extent-preserved : goal.loop-extent-preserved
loop-extent-preserved c =
    let i : ℕ = c.loop-extent.extent-index in
    let lt : i < length c.args.extents.now = c.loop-extent-test.true in
    let extent : Range = get_or c.args.extents.now i (record { first = 0; len = 0 }) in
    rw (c.in_ok-push-2.ensures.ok, c.in_ok-push.ensures.ok) (
      goes_on each_frame after_frame c.loop-extent.frames tt (length c.args.extents.now) i (fields c.loop-extent.left.now) c.in_ok-row.row (fields c.in_ok-row.rest.now) _ lt c.in_ok-row.ensures.read c.loop-extent.invariant.0,
      simp length-append (omega arith),
      rooms_more c.args.extents.now i _ c.loop-extent.frames c.in_ok-row.row c.loop-extent.homes _ lt c.loop-extent.invariant.1 c.loop-extent.invariant.2 (ap (λ (clear : Span → Bool). record { end = extent.first + extent.len; bytes = c.in_ok-row.row.bytes; clear = clear }) c.in_ok-row.ensures.taken),
      All-push IsStacked c.loop-extent.homes _ c.loop-extent.invariant.3 c.in_ok-row.ensures.stacked,
    )

pub returns : goal.returns
returns c =
    record {
      read = is_done each_frame after_frame c.loop-extent.frames tt (length c.args.extents.now) c.loop-extent.extent-index (fields c.loop-extent.left.now) _ c.loop-extent-test.false c.loop-extent.invariant.0;
      rooms = rw (take_all c.loop-extent.extent-index c.args.extents.now c.loop-extent-test.false) at c.loop-extent.invariant.2;
      stacked = c.loop-extent.invariant.3;
    }
