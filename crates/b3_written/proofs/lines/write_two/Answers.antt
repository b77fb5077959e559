use Rattle.std.proofs.Common.{◌++◌}
use Rattle.std.specs.Prelude.{codes}
use Rattle.b3_rows.specs.Written.{target_text}
use Rattle.b3_written.proofs.ListedLemmas.{then_more}
use Rattle.b3_written.proofs.lines.write_two.Goals as goal

pub returns : goal.returns
returns c =
    let a = target_text c.args.then_block in
    let b = target_text c.args.else_block in
    let last = then_more c.put_target.new.out c.extend-2.new.self c.put_target-2.new.out (codes ", Else:") b c.in_ok-extend-2.ensures.ok
    c.in_ok-put_target-2.ensures in
    let more = then_more c.extend.new.self c.put_target.new.out c.put_target-2.new.out a (codes ", Else:" ++ b) c.in_ok-put_target.ensures last in
    then_more c.args.out.now c.extend.new.self c.put_target-2.new.out (codes "  Successors: Then:") (a ++ (codes ", Else:" ++ b))
    c.in_ok-extend.ensures.ok more
