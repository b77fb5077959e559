use Rattle.exit_table.specs.Good.{Span}
use Rattle.exit_table.proofs.TakenLaws.{first_tells}
use Rattle.exit_table.proofs.taken.has_room.Goals as goal

pub returns-in-Some : goal.returns-in-Some
returns-in-Some c =
    let span : Span = record { offset = c.args.offset; size = c.args.size } in
    rw (c.from.ensures, c.from-in-Some.ensures, c.from-in-Some-2.ensures) (first_tells span c.args.taken.now.entries (c.in-Some.first.now, c.in-Some.bytes.now) c.next.new.self c.range.result c.requires.most (c.range.ensures.between tt) c.in-Some.ensures.steps)
