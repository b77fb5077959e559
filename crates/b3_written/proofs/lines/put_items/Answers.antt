use Rattle.std.proofs.Common.{false, length}
use Rattle.b3_ir.specs.Table.{row_of}
use Rattle.b3_rows.specs.Written.{child_texts, constraints_of, last_texts, lead_texts}
use Rattle.b3_written.proofs.ListedLemmas.{three_parts}
use Rattle.b3_written.proofs.lines.put_items.Goals as goal

pub returns : goal.returns
returns c =
    let v = c.args.value.now in
    let row = row_of v.kind.opcode in
    three_parts false c.in_ok-led.led c.in_ok-some.some c.args.out.now c.put_lead.new.out c.put_children.new.out c.put_last.new.out
    (lead_texts row.carries v.body) (child_texts (length row.takes) v.children (constraints_of v.body)) (last_texts v.body)
    (rw c.carries_of.ensures at c.in_ok-led.ensures.text) (rw c.carries_of.ensures at c.in_ok-led.ensures.some)
    (rw (c.taken_by.ensures, c.as_slice.ensures, c.constraints_of.ensures) at c.in_ok-some.ensures.text) (rw (
      c.taken_by.ensures,
      c.as_slice.ensures,
      c.constraints_of.ensures,
    ) at c.in_ok-some.ensures.some)
    c.in_ok-put_last.ensures
