use Rattle.std.specs.Prelude.{codes}
use Rattle.b3_rows.specs.Written.{target_text}
use Rattle.b3_written.proofs.ListedLemmas.{then_more}
use Rattle.b3_written.proofs.lines.write_one.Goals as goal

pub returns : goal.returns
returns c = then_more c.args.out.now c.extend.new.self c.put_target.new.out (codes "  Successors: ")
    (target_text c.args.target) c.in_ok-extend.ensures.ok c.in_ok-put_target.ensures
