use Rattle.std.specs.Prelude.{codes, nat_eq}
use Rattle.std.specs.Fmt.{decimal}
use Rattle.b3_rows.specs.Written.{constraint_text, is_some_register, named_text, set_text}
use Rattle.b3_written.proofs.ListedLemmas.{four_parts}
use Rattle.b3_written.proofs.items.put_map_items.Goals as goal

pub returns : goal.returns
returns c =
    let m = c.args.map.now in
    four_parts c.args.some c.in_ok-sized.sized c.in_ok-early.early c.in_ok-late.late c.args.out.now c.put_result_item.new.out c.put_size_item.new.out
    c.put_set_item.new.out c.put_set_item-2.new.out
    (named_text (is_some_register m.result) (codes "resultConstraint") (constraint_text m.result)) (named_text (nat_eq m.size 1) (codes "size")
    (decimal m.size))
    (named_text (nat_eq m.early 0) (codes "earlyClobbered") (set_text m.early)) (named_text (nat_eq m.late 0) (codes "lateClobbered") (set_text m.late))
    c.in_ok-sized.ensures.text c.in_ok-sized.ensures.some c.in_ok-early.ensures.text c.in_ok-early.ensures.some c.in_ok-late.ensures.text
    c.in_ok-late.ensures.some c.in_ok-put_set_item.ensures.text
