use Rattle.std.proofs.lemmas.Result.{on_ok_weaker}
use Rattle.b3_print.proofs.TextLemmas.{block_written}
use Rattle.b3_print.proofs.printing.put_block.Goals as goal

pub returns : goal.returns
returns c b there = on_ok_weaker c.put_values.result (λ ok. block_written c.args.p.now.procedure c.args.at c.block.result.number b c.args.out.now c.put_heading.new.out c.put_values.new.out there c.block.ensures.number c.in_ok-put_heading.ensures ok) c.put_values.ensures
