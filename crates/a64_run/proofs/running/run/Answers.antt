-- The symbol and the frame of the name stand at one place, and the symbol begins in the text.
use Rattle.std.proofs.Common.{◌*◌, ◌≤◌, subst, length, arith}
use Rattle.b3_base.specs.Observed.{machine_start_of}
use Rattle.elf_obj.specs.declared.object.Symbol.{Symbol}
use Rattle.exit_table.specs.declared.tables.FrameRow.{FrameRow}
use Rattle.a64_run.proofs.Sites.{begins_within, good_frame}
use Rattle.a64_run.proofs.Stepping.{same_item}
use Rattle.a64_run.specs.Finding.{MayBegin}
use Rattle.a64_run.proofs.running.run.Goals as goal

pub run_from-requires-clause-sound : goal.run_from-requires-clause-sound
run_from-requires-clause-sound c =
    let o = c.args.object.now in
    let found = c.in_ok-at.ensures.ok in
    let frame = same_item o.tables.frames c.in_ok-at.at found.1 c.get-2.result.now found.3 c.get-2.ensures in
    record {
      object = c.requires;
      frame = good_frame o c.in_ok-at.at c.get-2.result.now c.requires c.get-2.ensures;
      room = subst (λ (f : FrameRow). f.bytes ≤ c.args.start.now.sp) frame found.4.places.room;
    }

pub run_from-requires-clause-starts : goal.run_from-requires-clause-starts
run_from-requires-clause-starts c =
    let within = begins_within 0 (4 * length c.args.object.now.text) c.in_ok-at.at c.args.object.now.symbols c.get.result.now c.requires.fills c.get.ensures in
    let ends = c.in_ok-at.ensures.ok.4.places.code_ends in
    omega (arith, within, ends)

pub returns-in-Ok-clause-ok : goal.returns-in-Ok-clause-ok
returns-in-Ok-clause-ok c =
    let o = c.args.object.now in
    let found = c.in_ok-at.ensures.ok in
    let symbol = same_item o.symbols c.in_ok-at.at found.0 c.get.result.now found.2 c.get.ensures in
    let frame = same_item o.tables.frames c.in_ok-at.at found.1 c.get-2.result.now found.3 c.get-2.ensures in
    let may = subst (λ (s : Symbol). MayBegin o c.args.name.now (machine_start_of c.args.start.now) s c.get-2.result.now) symbol
    (subst (λ (f : FrameRow). MayBegin o c.args.name.now (machine_start_of c.args.start.now) found.0 f) frame found.4) in
    (c.get.result.now, c.get-2.result.now, may, c.in-Ok.ensures)
