use Rattle.std.proofs.Common.{◌≡◌, ◌++◌, length, map}
use Rattle.b3_base.specs.declared.word.Width.TheVariants.{W64}
use Rattle.b3_rows.specs.Written.{joined, word_text}
use Rattle.b3_written.specs.Listed.{listed}
use Rattle.b3_written.proofs.items.put_words.Given as goal

abbrev pub invariant-loop-word : goal.invariant-loop-word
invariant-loop-word l = l.out ++ listed l.some (map (word_text W64) l.left) ≡ l.fn.out ++ joined (map (word_text W64) l.words)

abbrev pub decreases-loop-word : goal.decreases-loop-word
decreases-loop-word l = length l.left
