use Rattle.a64_layout.specs.Text.{chosen}
use Rattle.a64_layout.proofs.Least.{least_is_short}
use Rattle.a64_layout.proofs.Words.{few_words}
use Rattle.a64_layout.proofs.Stepping.{runs_as_items}
use Rattle.a64_layout.proofs.text.resolve.Goals as goal

pub returns-clause-text : goal.returns-clause-text
returns-clause-text c = (
  chosen c.in_ok-long.long,
  c.in_ok-long.ensures.least,
  least_is_short c.args.code (chosen c.in_ok-long.long) c.in_ok-long.ensures.least,
  record { words = c.in_ok-words.ensures; labels = c.put_places.ensures.labels; marks = c.put_places.ensures.marks },
  λ marked.
      runs_as_items c.args.code c.requires marked (chosen c.in_ok-long.long) c.in_ok-long.ensures.least.enough c.in_ok-words.words
      c.in_ok-words.ensures c.put_places.new.marks c.put_places.ensures.mark_count c.put_places.ensures.marks,
)

pub returns-clause-words : goal.returns-clause-words
returns-clause-words c = few_words c.args.code (chosen c.in_ok-long.long) c.in_ok-words.words c.in_ok-words.ensures
