use Rattle.std.proofs.Common.{map}
use Rattle.std.specs.Prelude.{codes}
use Rattle.b3_base.specs.declared.word.Width.TheVariants.{W64}
use Rattle.b3_rows.specs.Written.{in_brackets, word_text}
use Rattle.b3_written.proofs.ListedLemmas.{named_step}
use Rattle.b3_written.proofs.items.put_cases_item.Goals as goal

pub returns : goal.returns
returns c = named_step c.args.some c.args.out.now c.put_name.new.out c.put_cases.new.out (codes "cases") (in_brackets (map
    (word_text W64) c.args.words.now)) c.in_ok-put_name.ensures c.in_ok-put_cases.ensures
