use Rattle.std.proofs.Common.{ℕ, ◌++◌, List, map, sym, ◌∙◌, ap}
use Rattle.b3_base.specs.declared.word.Width.TheVariants.{W64}
use Rattle.b3_rows.specs.Written.{word_text}
use Rattle.b3_written.specs.Listed.{listed}
use Rattle.b3_written.proofs.ListedLemmas.{listed_step}
use Rattle.b3_written.proofs.items.put_words.Goals as goal

pub loop-word-preserved : goal.loop-word-preserved
loop-word-preserved c =
    listed_step c.loop-word.some c.loop-word.out c.put_separator.new.out c.put_word.new.out (word_text W64 c.in-Some.word.now) (map
    (word_text W64) c.in-Some.more.now) c.in_ok-put_separator.ensures c.in_ok-put_word.ensures
    ∙ ap (λ (left : List ℕ). c.loop-word.out ++ listed c.loop-word.some (map (word_text W64) left)) (sym c.in-Some.ensures.cases.0)
    ∙ c.loop-word.invariant
