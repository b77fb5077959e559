use Rattle.std.proofs.Common.{◌≡◌, ℕ, ◌+◌, ◌-◌, length}
use Rattle.bit_rows.specs.Words.{is_one}
use Rattle.air_graph.proofs.pages.widen.Given as goal

abbrev pub invariant-loop-words : goal.invariant-loop-words
invariant-loop-words l = (q : ℕ) → is_one l.words.items 0 q ≡ is_one l.initial.words.items 0 q

abbrev pub decreases-loop-words : goal.decreases-loop-words
decreases-loop-words l = l.at + 1 - length l.words.items
