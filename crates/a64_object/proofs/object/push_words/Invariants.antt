use Rattle.std.proofs.Common.{◌≡◌, ◌++◌, take}
use Rattle.a64_object.proofs.object.push_words.Given as goal

abbrev pub invariant-loop-k : goal.invariant-loop-k
invariant-loop-k l = l.text ≡ l.initial.text ++ take l.k l.words
