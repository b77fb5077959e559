use Rattle.std.specs.Prelude.{codes}
use Rattle.b3_rows.specs.Written.{joined, target_texts}
use Rattle.b3_written.proofs.ListedLemmas.{then_more}
use Rattle.b3_written.proofs.lines.write_many.Goals as goal

pub returns : goal.returns
returns c = then_more c.args.out.now c.extend.new.self c.put_targets.new.out (codes "  Successors: ") (joined
    (target_texts c.args.targets.now)) c.in_ok-extend.ensures.ok c.in_ok-put_targets.ensures
